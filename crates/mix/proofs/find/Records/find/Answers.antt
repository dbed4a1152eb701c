-- `mix::find::Records::find`: the search, then the record's bytes.
use mathlib.Core.Path.{sym, ap, ◌∙◌}
use Rattle.spec.proofs.Status.{answer-refused}
use Rattle.mix.specs.Calls.{find_encoded_mix}
use Rattle.mix.specs.Search.{seen_on}
use Rattle.mix.specs.declared.find.Matches.TheVariants.{Zero}
use Rattle.store.proofs.Tests.{refused_number, handed_on}
use Rattle.mix.proofs.Scan.{status-refused}
use Rattle.mix.proofs.Tried.{name-early}
use Rattle.mix.proofs.Found.{search-decides, slot-found, given}
use Rattle.mix.proofs.find.Records.find.Goals as goal

pub returns-in_err-seen : goal.returns-in_err-seen
unfolding find_encoded_mix
returns-in_err-seen c =
    let r = c.args.self.now in
    let e = c.in_err-seen.field-0.0 in
    let buf = c.args.mix_buf.now in
    rw (handed_on _ e c.from_residual.ensures)
    (answer-refused _ _ _ buf
    (search-decides r.kv.now r.rbp.now r.device.now.key c.args.session_id buf c.requires r.passed _ c.in_err-seen.ensures
    ∙ status-refused r.kv.now r.rbp.now r.device.now.key c.args.session_id _ Zero (refused_number e))
    (refused_number e))

pub returns-in_err-at : goal.returns-in_err-at
unfolding find_encoded_mix
returns-in_err-at c =
    let r = c.args.self.now in
    let e = c.in_err-at.field-0.0 in
    let buf = c.args.mix_buf.now in
    rw (handed_on _ e c.from_residual-in_err-at.ensures)
    (answer-refused _ _ _ buf
    (search-decides r.kv.now r.rbp.now r.device.now.key c.args.session_id buf c.requires r.passed _ c.in_ok-seen.ensures ∙ sym c.in_err-at.ensures.number)
    (refused_number e))

pub name_at-requires : goal.name_at-requires
name_at-requires c =
    let r = c.args.self.now in
    let found = ap seen_on (sym c.in_ok-at.ensures.at) ∙ c.in_ok-seen.ensures in
    let f = slot-found r.kv.now r.rbp.now r.device.now.key c.args.session_id r.passed c.in_ok-at.at found in
    rw (c.card.ensures.0, c.card.ensures.1) (f.0, f.1)

pub get_prepared-requires-clause-name_value : goal.get_prepared-requires-clause-name_value
get_prepared-requires-clause-name_value c =
    let r = c.args.self.now in
    let found = ap seen_on (sym c.in_ok-at.ensures.at) ∙ c.in_ok-seen.ensures in
    let f = slot-found r.kv.now r.rbp.now r.device.now.key c.args.session_id r.passed c.in_ok-at.at found in
    let name = rw (c.card.ensures.0, c.card.ensures.1) at c.name_at.ensures in
    name-early r.kv.now r.rbp.now r.device.now.key r.passed c.in_ok-at.at _ name f.1

pub returns : goal.returns
returns c =
    let r = c.args.self.now in
    let found = ap seen_on (sym c.in_ok-at.ensures.at) ∙ c.in_ok-seen.ensures in
    let name = rw (c.card.ensures.0, c.card.ensures.1) at c.name_at.ensures in
    c.get_prepared.ensures
    ∙ given r.kv.now r.rbp.now r.device.now.key c.args.session_id r.passed c.in_ok-at.at found c.args.mix_buf.now _ c.requires name
