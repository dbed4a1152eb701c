-- `store::iterate::iterator_next`: the next slot with the prefix, if there is one, and its name.
use mathlib.Core.Path.{sym, ap, ◌∙◌}
use mathlib.Core.List.{List, [], ◌∷◌, ◌++◌}
use Prim.Native.Nat.{ℕ, suc}
use native.Mathlib.Numerals.{add-one}
use native.Mathlib.Omega.{arith}
use lib.ListN.{length, drop}
use Rattle.std.specs.Prelude.{Result}
use Rattle.spec.specs.Status.{Answer}
use Rattle.store.specs.declared.answers.Iterated.{Iterated}
use Rattle.store.specs.declared.status.Refusal.{Refusal}
use Rattle.store.specs.Answers.{status_of, value_or, no_name}
use Rattle.store.proofs.Slices.{paste-front}
use Rattle.store.proofs.Tests.{refused_number, handed_on}
use Rattle.store.proofs.IteratorCall.{early_is, iterator_sane, iterator_stopped, iterator_past, iterator_here}
use Rattle.store.proofs.IteratorCall.{shown-facts, iterated-refused, iterated-done}
use Rattle.store.proofs.iterate.iterator_next.Goals as goal

abbrev answer : List ℕ → Result Iterated Refusal → Answer
answer buf r = record { status = status_of r; numbers = (value_or no_name r).name_len ∷ (value_or no_name r).next_slot ∷ []; output = buf }

pub returns-in_err-early_status : goal.returns-in_err-early_status
returns-in_err-early_status c =
    let args = c.args in
    let tested = c.in_err-early_status.ensures ∙ early_is args.kv.now args.rbp.now args.prefix.now args.name_buf.now _ c.valid_prefix.ensures in
    let e = iterator_stopped args.kv.now args.rbp.now args.prefix.now args.start_slot args.name_buf.now _ tested (refused_number _) in
    ap (answer args.name_buf.now) (handed_on _ _ c.from_residual.ensures)
    ∙ iterated-refused args.kv.now args.rbp.now args.prefix.now args.start_slot args.name_buf.now _ e (refused_number _)

pub invariant_of-card : goal.invariant_of-card
invariant_of-card c =
    let args = c.args in
    let passed = sym (c.in_ok-early_status.ensures ∙ early_is args.kv.now args.rbp.now args.prefix.now args.name_buf.now _ c.valid_prefix.ensures) in
    let u = iterator_sane args.kv.now args.rbp.now args.prefix.now args.name_buf.now passed in
    record { sound = (u.kv_sized, u.kv_intact) }

pub returns-then-slot_count-at : goal.returns-then-slot_count-at
returns-then-slot_count-at c =
    let args = c.args in
    let passed = sym (c.in_ok-early_status.ensures ∙ early_is args.kv.now args.rbp.now args.prefix.now args.name_buf.now _ c.valid_prefix.ensures) in
    let past = rw (c.slot_count.ensures, c.next_match-at.ensures) at c.if-slot_count-at.true in
    let e = iterator_past args.kv.now args.rbp.now args.prefix.now args.start_slot args.name_buf.now passed past in
    iterated-refused args.kv.now args.rbp.now args.prefix.now args.start_slot args.name_buf.now 6 e (λ z. absurd (omega arith))

pub name_at-name-requires : goal.name_at-name-requires
name_at-name-requires c =
    let args = c.args in
    let passed = sym (c.in_ok-early_status.ensures ∙ early_is args.kv.now args.rbp.now args.prefix.now args.name_buf.now _ c.valid_prefix.ensures) in
    let here = rw (c.slot_count.ensures, c.next_match-at.ensures) at c.if-slot_count-at.false in
    let all = iterator_here args.kv.now args.rbp.now args.prefix.now args.start_slot args.name_buf.now passed here in
    let f = shown-facts args.kv.now args.rbp.now args.prefix.now args.start_slot args.name_buf.now all in
    (rw c.next_match-at.ensures f.in_range, rw c.next_match-at.ensures f.used)

pub paste-requires : goal.paste-requires
paste-requires c =
    let args = c.args in
    let passed = sym (c.in_ok-early_status.ensures ∙ early_is args.kv.now args.rbp.now args.prefix.now args.name_buf.now _ c.valid_prefix.ensures) in
    let here = rw (c.slot_count.ensures, c.next_match-at.ensures) at c.if-slot_count-at.false in
    let all = iterator_here args.kv.now args.rbp.now args.prefix.now args.start_slot args.name_buf.now passed here in
    let f = shown-facts args.kv.now args.rbp.now args.prefix.now args.start_slot args.name_buf.now all in
    rw (c.name_at-name.ensures, c.next_match-at.ensures, f.name_is) (omega (arith, f.name_short, f.buf_long))

pub returns : goal.returns
returns c =
    let args = c.args in
    let at = c.next_match-at.ensures in
    let buf = args.name_buf.now in
    let passed = sym (c.in_ok-early_status.ensures ∙ early_is args.kv.now args.rbp.now args.prefix.now args.name_buf.now _ c.valid_prefix.ensures) in
    let here = rw (c.slot_count.ensures, c.next_match-at.ensures) at c.if-slot_count-at.false in
    let all = iterator_here args.kv.now args.rbp.now args.prefix.now args.start_slot args.name_buf.now passed here in
    let f = shown-facts args.kv.now args.rbp.now args.prefix.now args.start_slot args.name_buf.now all in
    let e = rw at at c.name_at-name.ensures ∙ f.name_is in
    let bytes = c.paste.ensures ∙ paste-front buf c.name_at-name.result.now ∙ ap (λ (l : List ℕ). l ++ drop (length l) buf) e in
    iterated-done args.kv.now args.rbp.now args.prefix.now args.start_slot args.name_buf.now all _ _ _ (ap length e) (add-one _ ∙ ap suc at) bytes
