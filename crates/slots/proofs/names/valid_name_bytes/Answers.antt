-- `slots::names::valid_name_bytes`: an and over all bytes.
use mathlib.Core.Path.{◌≡◌, sym, ◌∙◌}
use mathlib.Core.Bool.{Bool, true, ◌&&◌, and_assoc}
use mathlib.Core.List.{List, [], ◌∷◌}
use Prim.Native.Nat.{ℕ}
use Rattle.std.specs.List.{fold}
use Rattle.std.proofs.Common.{rules}
use Rattle.std.proofs.lemmas.Iterator.{YieldsList-from_slice}
use Rattle.std.proofs.lemmas.Iterator.Consumers.{fold_from_yields_List}
use Rattle.buffers.specs.Bytes.{every}
use Rattle.buffers.proofs.Folds.{and-true}
use Rattle.spec.specs.Name.{valid_name_byte}
use Rattle.slots.proofs.names.valid_name_bytes.Goals as goal

fold-every : (t : ℕ → Bool) (l : List ℕ) (acc : Bool) → fold (λ (v : Bool) (x : ℕ). v && t x) acc l ≡ (acc && every t l)
fold-every t [] acc = sym (and-true acc)
fold-every t (x ∷ l) acc = fold-every t l (acc && t x) ∙ and_assoc acc (t x) (every t l)

pub returns : goal.returns
returns c =
    let s = c.args.s.now in
    fold_from_yields_List _ (λ (v : Bool) (x : ℕ). v && valid_name_byte x) true c.fold.result c.fold.ensures.ran (YieldsList-from_slice s cc) (λ v x r q k. search rules)
    ∙ fold-every valid_name_byte s true
