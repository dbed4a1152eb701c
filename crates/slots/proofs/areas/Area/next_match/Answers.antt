-- `slots::areas::Area::next_match`. The invariant: what is found from i on is what is found from the start on.
use mathlib.Core.Path.{◌≡◌, refl, sym, ◌∙◌}
use native.Mathlib.Omega.{arith}
use Rattle.spec.specs.Area.{kv_format, slot_count}
use Rattle.spec.specs.Calls.{slot_has_prefix, next_match}
use Rattle.slots.proofs.AreaLaws.{search-here, search-later, search-past}
use Rattle.slots.specs.Found.{slot_at}
use Rattle.slots.proofs.areas.Area.next_match.Goals.{After-slot_count-k}
use Rattle.slots.proofs.areas.Area.next_match.Goals as goal

count : (c : goal.After-slot_count-k) → c.slot_count-k.result ≡ slot_count kv_format c.args.self.now.bytes.now
count c = rw c.requires at c.slot_count-k.ensures

pub returns-then-prefix_at : goal.returns-then-prefix_at
unfolding next_match
returns-then-prefix_at c =
    let l = c.args.self.now.bytes.now in
    let i = c.loop-i.i in
    search-here kv_format l c.slot_count-k.result i (count (goal.at.returns-then-prefix_at c).After-slot_count-k) (slot_has_prefix c.args.prefix.now) _
    c.loop-i.invariant.1 c.loop-i-test.true (slot_at kv_format l i) refl (sym c.prefix_at.ensures ∙ c.if-prefix_at.true)

pub loop-i-preserved : goal.loop-i-preserved
loop-i-preserved c =
    let l = c.args.self.now.bytes.now in
    let i = c.loop-i.i in
    let later =
    search-later kv_format l c.slot_count-k.result i (count (goal.at.loop-i-preserved c).After-slot_count-k) (slot_has_prefix c.args.prefix.now) _
    c.loop-i.invariant.1 c.loop-i-test.true (slot_at kv_format l i) refl (sym c.prefix_at.ensures ∙ c.if-prefix_at.false) in
    (omega arith, later)

pub returns : goal.returns
unfolding next_match
returns c =
    let l = c.args.self.now.bytes.now in
    let i = c.loop-i.i in
    let past =
    search-past kv_format l c.slot_count-k.result i (count (goal.at.returns c).After-slot_count-k) (slot_has_prefix c.args.prefix.now) _
    c.loop-i.invariant.1 c.loop-i-test.false in
    let e : c.max.result ≡ i = omega (arith, c.max.ensures) in
    e ∙ past
