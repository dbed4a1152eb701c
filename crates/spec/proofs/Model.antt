-- The reference model's tables: what an edit does, and that they start with what the areas hold.
use mathlib.Core.Path.{◌≡◌, refl}
use mathlib.Core.Logic.{◌≢◌}
use mathlib.Core.Bool.{false}
use mathlib.Core.List.{List, [], ◌∷◌}
use mathlib.Core.Option.{none}
use Prim.Native.Nat.{ℕ}
use Rattle.buffers.specs.Bytes.{bytes_eq}
use Rattle.spec.specs.Name.{Name}
use Rattle.spec.specs.Slots.{find_first, map_option}
use Rattle.spec.specs.Area.{Format, kv_format, rbp_format, slot_payload, slot_holder, holds, slots, lookup, Edit, keep, write, clear}
use Rattle.spec.specs.Calls.{binding_of}
use Rattle.spec.specs.Model.{Item, table_lookup, table_remove, table_edit, items_of, model_of, model_binding}
use Rattle.buffers.proofs.Split.{split, split_o}
use Rattle.buffers.proofs.Bytes.{bytes_eq-eq, bytes_eq-refl, bytes_eq-not}
use Rattle.spec.proofs.Area.{edit_option}

removed-same : (t : List Item) (n : Name) → table_lookup (table_remove t n) n ≡ none
removed-same [] n = refl
removed-same (i ∷ t) n = split (bytes_eq n i.name) (λ e. simp (e, removed-same t n)) (λ e. simp (e, removed-same t n))

removed-other : (t : List Item) (m n : Name) → m ≢ n → table_lookup (table_remove t n) m ≡ table_lookup t m
removed-other [] m n h = refl
removed-other (i ∷ t) m n h = split (bytes_eq n i.name)
    (λ e. let k : bytes_eq m i.name ≡ false = rw (← (bytes_eq-eq n i.name e)) (bytes_eq-not m n h) in simp (e, k, removed-other t m n h))
    (λ e. simp (e, removed-other t m n h))

pub table_same : (t : List Item) (n : Name) (x : Edit) → table_lookup (table_edit t n x) n ≡ edit_option x (table_lookup t n)
table_same t n keep = refl
table_same t n (write p) = rw (bytes_eq-refl n)
table_same t n clear = removed-same t n

pub table-other : (t : List Item) (m n : Name) (x : Edit) → m ≢ n → table_lookup (table_edit t n x) m ≡ table_lookup t m
table-other t m n keep h = refl
table-other t m n (write p) h = rw (bytes_eq-not m n h) (removed-other t m n h)
table-other t m n clear h = removed-other t m n h

items-lookup : (F : Format) (ss : List (List ℕ)) (n : Name) → table_lookup (items_of F ss) n ≡ map_option (slot_payload F) (find_first (holds F n) ss)
items-lookup F [] n = refl
items-lookup F (s ∷ ss) n = split_o (slot_holder F s) (λ e. simp (e, items-lookup F ss n))
    (λ m e. split (bytes_eq n m) (λ k. simp (e, k)) (λ k. simp (e, k, items-lookup F ss n)))

pub model-start : (kv rbp : List ℕ) (n : Name) → binding_of kv rbp n ≡ model_binding (model_of kv rbp) n
unfolding lookup
model-start kv rbp n = rw (items-lookup kv_format (slots kv_format kv) n, items-lookup rbp_format (slots rbp_format rbp) n)
