-- The premises of demand 3 can be met, and what the two clients of the instance are then answered.
use mathlib.Core.Path.{◌≡◌, refl}
use mathlib.Core.Bool.{true, not}
use mathlib.Core.List.{List, [], ◌∷◌, map, flatten, Memᴰ}
use lib.ListN.{replicate}
use native.Mathlib.Omega.{arith}
use Rattle.buffers.specs.Bytes.{every}
use Rattle.spec.specs.Status.{refuse_if, on_ok}
use Rattle.spec.specs.Name.{Name, valid_name_byte, valid_name}
use Rattle.spec.specs.Record.{valid_flags, metadata, well_formed, sealed_iv, sealed_data, sealed_tag, seal_record, plaintext}
use Rattle.spec.specs.Slots.{member}
use Rattle.spec.specs.Area.{slot_free, slot_used, slot_valid, slot_holder, sized, intact}
use Rattle.spec.specs.Decisions.{set_held, set_effect, get_held, read_count, read_output, remove_held}
use Rattle.spec.specs.Interleaving.{Interleaving, lefts, rights}
use Rattle.spec.specs.Model.{call_name}
use Rattle.spec.specs.Demand3.{IsolationPremise, Isolated, calls, in_turn, Instance}
use Rattle.buffers.proofs.Split.{clash, both, not_true_is}
use Rattle.spec.proofs.NameLists.{in_member}
use Rattle.spec.proofs.Isolation.{client_isolation}

-- lists without a common name, by a test
apart : (ns ms : List Name) → every (λ n. not (member n ms)) ns ≡ true → (n : Name) → Memᴰ n ns → Memᴰ n ms → ⊥
apart [] ms h n m j = elim m [ ]
apart (x ∷ ns) ms h n (Memᴰ.head e) j =
    clash (member x ms) (in_member x ms (rw e at j)) (not_true_is (member x ms) (both (not (member x ms)) (every (λ n. not (member n ms)) ns) h).0)
apart (x ∷ ns) ms h n (Memᴰ.tail k) j = apart ns ms (both (not (member x ms)) (every (λ n. not (member n ms)) ns) h).1 n k j

premise : IsolationPremise (replicate 1168 0) (replicate 164 0) (lefts calls) (rights calls)
unfolding flatten sized intact slot_free slot_used slot_valid slot_holder valid_name valid_name_byte
premise = record {
  undamaged = record { kv_sized = refl; rbp_sized = refl; kv_intact = refl; rbp_intact = refl };
  no_shared_name = apart (map call_name (lefts calls)) (map call_name (rights calls)) refl;
  kv_room = omega arith;
  rbp_room = omega arith;
}

isolated : Isolated (replicate 1168 0) (replicate 164 0) (lefts calls) (rights calls) calls
isolated = client_isolation _ _ (lefts calls) (rights calls) calls (record { left = refl; right = refl }) premise

one-after-other : Interleaving (lefts calls) (rights calls) in_turn
one-after-other = record { left = refl; right = refl }

-- what the model answers to each client alone
pub instance : Instance
unfolding refuse_if on_ok slot_free slot_holder valid_name valid_name_byte valid_flags set_held set_effect seal_record metadata sealed_iv sealed_data sealed_tag
    get_held well_formed read_count read_output plaintext remove_held
instance = record {
  premise = premise;
  left_replies = isolated.left_answers;
  right_replies = isolated.right_answers;
  merged = (record { left = refl; right = refl }, one-after-other);
  same_bytes = isolated.same_bytes in_turn one-after-other;
}
