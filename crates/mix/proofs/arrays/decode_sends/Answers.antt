-- `mix::arrays::decode_sends`: three lengths, then the mix, spread over the arrays.
use mathlib.Core.Path.{refl, sym, ap, ◌∙◌}
use Rattle.mix.specs.Arrays.{SendArrays, DecodedSends}
use Rattle.mix.proofs.ArrayLaws.{decoded_small, short-tags, short-levels, short-pans, is_no_mix, is-spread}
use Rattle.mix.specs.Mix.{zero_mix}
use Rattle.store.specs.Answers.{code}
use Rattle.store.proofs.Tests.{refused_number, handed_on}
use Rattle.mix.proofs.arrays.decode_sends.Goals as goal

pub returns-then-tags-lt-MAX_SENDS : goal.returns-then-tags-lt-MAX_SENDS
returns-then-tags-lt-MAX_SENDS c =
    let lent : SendArrays = record { tags = c.args.tags.now; levels = c.args.levels.now; pans = c.args.pans.now } in
    sym (short-tags c.args.b.now lent c.if-tags-lt-MAX_SENDS.true)

pub returns-then-levels-lt-MAX_SENDS : goal.returns-then-levels-lt-MAX_SENDS
returns-then-levels-lt-MAX_SENDS c =
    let lent : SendArrays = record { tags = c.args.tags.now; levels = c.args.levels.now; pans = c.args.pans.now } in
    sym (short-levels c.args.b.now lent c.if-tags-lt-MAX_SENDS.false c.if-levels-lt-MAX_SENDS.true)

pub returns-then-pans-lt-MAX_SENDS : goal.returns-then-pans-lt-MAX_SENDS
returns-then-pans-lt-MAX_SENDS c =
    let lent : SendArrays = record { tags = c.args.tags.now; levels = c.args.levels.now; pans = c.args.pans.now } in
    sym (short-pans c.args.b.now lent c.if-tags-lt-MAX_SENDS.false c.if-levels-lt-MAX_SENDS.false c.if-pans-lt-MAX_SENDS.true)

pub returns-in_err-mix : goal.returns-in_err-mix
returns-in_err-mix c =
    let lent : SendArrays = record { tags = c.args.tags.now; levels = c.args.levels.now; pans = c.args.pans.now } in
    let e = c.in_err-mix.field-0.0 in
    let answers = is_no_mix c.args.b.now lent c.if-tags-lt-MAX_SENDS.false c.if-levels-lt-MAX_SENDS.false c.if-pans-lt-MAX_SENDS.false in
    rw (handed_on _ e c.from_residual.ensures) (sym (answers (record { status = code e; mix = zero_mix }) c.in_err-mix.ensures (refused_number e)))

pub spread-requires : goal.spread-requires
spread-requires c = (
  decoded_small c.args.b.now (record { status = 0; mix = c.in_ok-mix.mix }) c.in_ok-mix.ensures refl,
  c.if-tags-lt-MAX_SENDS.false,
  c.if-levels-lt-MAX_SENDS.false,
  c.if-pans-lt-MAX_SENDS.false,
)

pub returns : goal.returns
returns c =
    let lent : SendArrays = record { tags = c.args.tags.now; levels = c.args.levels.now; pans = c.args.pans.now } in
    let m = c.in_ok-mix.mix in
    let answers = is-spread c.args.b.now lent c.if-tags-lt-MAX_SENDS.false c.if-levels-lt-MAX_SENDS.false c.if-pans-lt-MAX_SENDS.false in
    ap {B = DecodedSends} (λ (x : SendArrays). record { status = 0; session = m.session_id; count = m.count; arrays = x }) c.spread.ensures
    ∙ sym (answers (record { status = 0; mix = m }) c.in_ok-mix.ensures refl)
