-- `mix::arrays::encode_sends`: five tests, then as a mix.
use mathlib.Core.Path.{sym, ap, ◌∙◌}
use mathlib.Core.List.{List}
use lib.ListN.{length}
use Rattle.store.proofs.Tests.{is_false, is_true}
use Rattle.mix.specs.Mix.{encode_mix}
use Rattle.mix.specs.Arrays.{mix_from}
use Rattle.mix.specs.declared.monitor.AuxSend.{AuxSend}
use Rattle.mix.proofs.ArrayLaws.{encode-short, other_levels, other_pans, too_many, bad-tag, is-encode}
use Rattle.std.proofs.Common.{not}
use Rattle.mix.proofs.arrays.encode_sends.Goals as goal

pub returns-then-mix_buf-lt-MAX_MIX : goal.returns-then-mix_buf-lt-MAX_MIX
returns-then-mix_buf-lt-MAX_MIX c =
    let a = c.args in
    sym (encode-short a.session_id a.tags.now a.levels.now a.pans.now a.mix_buf.now c.if-mix_buf-lt-MAX_MIX.true)

pub returns-then-levels-tags : goal.returns-then-levels-tags
returns-then-levels-tags c =
    let a = c.args in
    let answers = other_levels a.session_id a.tags.now a.levels.now a.pans.now a.mix_buf.now c.if-mix_buf-lt-MAX_MIX.false in
    sym (answers c.if-levels-tags.true)

pub returns-then-pans-tags : goal.returns-then-pans-tags
returns-then-pans-tags c =
    let a = c.args in
    let answers = other_pans a.session_id a.tags.now a.levels.now a.pans.now a.mix_buf.now c.if-mix_buf-lt-MAX_MIX.false c.if-levels-tags.false in
    sym (answers c.if-pans-tags.true)

pub returns-then-tags-gt-MAX_SENDS : goal.returns-then-tags-gt-MAX_SENDS
returns-then-tags-gt-MAX_SENDS c =
    let a = c.args in
    let answers = too_many a.session_id a.tags.now a.levels.now a.pans.now a.mix_buf.now c.if-mix_buf-lt-MAX_MIX.false c.if-levels-tags.false in
    sym (answers c.if-pans-tags.false c.if-tags-gt-MAX_SENDS.true)

pub returns-then-not-tags_valid : goal.returns-then-not-tags_valid
returns-then-not-tags_valid c =
    let a = c.args in
    let answers = bad-tag a.session_id a.tags.now a.levels.now a.pans.now a.mix_buf.now c.if-mix_buf-lt-MAX_MIX.false c.if-levels-tags.false in
    let bad = is_false c.tags_valid.ensures (ap not c.if-not-tags_valid.true) in
    sym (answers c.if-pans-tags.false c.if-tags-gt-MAX_SENDS.false bad)

pub returns : goal.returns
unfolding mix_from
returns c =
    let a = c.args in
    let n = length a.tags.now in
    let buf = a.mix_buf.now in
    let answers = is-encode a.session_id a.tags.now a.levels.now a.pans.now buf c.if-mix_buf-lt-MAX_MIX.false c.if-levels-tags.false in
    let good = is_true c.tags_valid.ensures (ap not c.if-not-tags_valid.false) in
    c.encode_mix.ensures
    ∙ ap (λ (l : List AuxSend). encode_mix (record { session_id = a.session_id; count = n; sends = l }) buf) c.sends_from-sends.ensures
    ∙ sym (answers c.if-pans-tags.false c.if-tags-gt-MAX_SENDS.false good)
