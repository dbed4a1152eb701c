-- `mix::find::Records::try_slot`: a slot of a mix, whose record is tried.
use mathlib.Core.Path.{sym, ap, ◌∙◌}
use Rattle.mix.specs.Search.{Tried, advanced, try_record, try_slot}
use Rattle.store.proofs.Tests.{refused_number, handed_on}
use Rattle.mix.proofs.Tried.{prefixed-used, sane, name-early, advance-refused, advance-holder, advance-other}
use Rattle.mix.proofs.find.Records.try_slot.Goals as goal

pub returns-then-not-prefix_at : goal.returns-then-not-prefix_at
unfolding try_slot
returns-then-not-prefix_at c =
    let prefix = rw c.card-card.ensures.1 at c.prefix_at.ensures in
    rw (sym prefix ∙ c.if-not-prefix_at.true)

pub name_at-requires : goal.name_at-requires
name_at-requires c =
    let r = c.args.self.now in
    let u = sane r.kv.now r.rbp.now r.device.now.key r.passed in
    let prefix = rw c.card-card.ensures.1 at c.prefix_at.ensures in
    rw (c.card-card.ensures.0, c.card-card.ensures.1)
    (c.requires, prefixed-used r.kv.now c.args.i u.kv_intact c.requires (sym prefix ∙ c.if-not-prefix_at.false))

pub session_of-requires : goal.session_of-requires
session_of-requires c =
    let r = c.args.self.now in
    let u = sane r.kv.now r.rbp.now r.device.now.key r.passed in
    let prefix = rw c.card-card.ensures.1 at c.prefix_at.ensures in
    let used = prefixed-used r.kv.now c.args.i u.kv_intact c.requires (sym prefix ∙ c.if-not-prefix_at.false) in
    name-early r.kv.now r.rbp.now r.device.now.key r.passed c.args.i _ (rw (c.card-card.ensures.0, c.card-card.ensures.1) at c.name_at.ensures) used

pub returns-in_err-session_of : goal.returns-in_err-session_of
unfolding try_slot
returns-in_err-session_of c =
    let r = c.args.self.now in
    let e = c.in_err-session_of.field-0.0 in
    let prefix = rw c.card-card.ensures.1 at c.prefix_at.ensures in
    let name = rw (c.card-card.ensures.0, c.card-card.ensures.1) at c.name_at.ensures in
    let tried = c.in_err-session_of.ensures ∙ ap (try_record r.kv.now r.rbp.now r.device.now.key) name in
    rw (handed_on _ e c.from_residual.ensures, sym prefix ∙ c.if-not-prefix_at.false)
    (advance-refused c.args.seen c.args.session_id c.args.i _ (refused_number e)
    ∙ ap (λ (t : Tried). advanced c.args.seen t c.args.session_id c.args.i) tried)

pub returns-then-branch-session_id : goal.returns-then-branch-session_id
unfolding try_slot
returns-then-branch-session_id c =
    let r = c.args.self.now in
    let prefix = rw c.card-card.ensures.1 at c.prefix_at.ensures in
    let name = rw (c.card-card.ensures.0, c.card-card.ensures.1) at c.name_at.ensures in
    let tried = c.in_ok-session_of.ensures ∙ ap (try_record r.kv.now r.rbp.now r.device.now.key) name in
    rw (c.with.ensures, sym prefix ∙ c.if-not-prefix_at.false)
    (advance-holder c.args.seen c.args.session_id c.args.i _ c.if-branch-session_id.true
    ∙ ap (λ (t : Tried). advanced c.args.seen t c.args.session_id c.args.i) tried)

pub returns-else-branch-session_id : goal.returns-else-branch-session_id
unfolding try_slot
returns-else-branch-session_id c =
    let r = c.args.self.now in
    let prefix = rw c.card-card.ensures.1 at c.prefix_at.ensures in
    let name = rw (c.card-card.ensures.0, c.card-card.ensures.1) at c.name_at.ensures in
    let tried = c.in_ok-session_of.ensures ∙ ap (try_record r.kv.now r.rbp.now r.device.now.key) name in
    rw (sym prefix ∙ c.if-not-prefix_at.false)
    (advance-other c.args.seen c.args.session_id c.args.i _ c.if-branch-session_id.false
    ∙ ap (λ (t : Tried). advanced c.args.seen t c.args.session_id c.args.i) tried)
