-- The message of a derivation, put together in a buffer of 38 zeros. Assumes nothing.
use Rattle.std.proofs.Common.{◌≡◌, ℕ, zero, suc, ◌+◌, ◌-◌, ◌≤◌, List, [], ◌∷◌, ◌++◌, length, take, drop, set, replicate, sym, ap, ◌∙◌, ap₂, append_assoc, arith, length-append, take_at}
use lib.Seq.{drop-append-add, set-append_seam}
use Rattle.buffers.specs.Bytes.{put_at}
use Rattle.cipher.specs.Kdf.{labelled}

abbrev pub zeros : ℕ → List ℕ
zeros k = replicate k 0

pub drop-zeros : (k j : ℕ) → drop k (zeros (k + j)) ≡ zeros j
drop-zeros zero j = let e : 0 + j ≡ j = omega arith in rw e
drop-zeros (suc k) j = let e : suc k + j ≡ suc (k + j) = omega arith in rw e (drop-zeros k j)

module _ (prefix name : List ℕ) (p n : ℕ) (hp : length prefix ≡ p) (hn : length name ≡ n) (h : p + n ≤ 32) where
  abbrev left : ℕ
  left = 32 - (p + n)

  abbrev front : List ℕ
  front = 1 ∷ (prefix ++ name)

  first-put : put_at (set (replicate 38 0) 0 1) 1 prefix ≡ (1 ∷ prefix) ++ zeros (37 - p)
  first-put =
      let split : 37 ≡ p + (37 - p) = omega arith in
      let next : 1 + length prefix ≡ suc p = omega arith in
      ap (λ (k : ℕ). 1 ∷ (prefix ++ drop k (1 ∷ zeros 37))) next
      ∙ ap (λ (l : List ℕ). 1 ∷ (prefix ++ l)) (ap (λ (k : ℕ). drop p (zeros k)) split ∙ drop-zeros p (37 - p))

  second-put : (m : List ℕ) → m ≡ put_at (set (replicate 38 0) 0 1) 1 prefix
      → put_at m (p + 1) name ≡ (front ++ 0 ∷ 0 ∷ 0 ∷ 0 ∷ []) ++ 0 ∷ zeros left
  second-put m e =
      let z : List ℕ = zeros (37 - p) in
      let at : length (1 ∷ prefix) ≡ p + 1 = omega arith in
      let to : p + 1 + length name ≡ length (1 ∷ prefix) + n = omega arith in
      let split : 37 - p ≡ n + (5 + left) = omega arith in
      let five : zeros (5 + left) ≡ 0 ∷ 0 ∷ 0 ∷ 0 ∷ 0 ∷ zeros left = let e : 5 + left ≡ suc (suc (suc (suc (suc left)))) = omega arith in rw e in
      let behind : drop n z ≡ 0 ∷ 0 ∷ 0 ∷ 0 ∷ 0 ∷ zeros left = ap (λ (k : ℕ). drop n (zeros k)) split ∙ drop-zeros n (5 + left) ∙ five in
      ap (λ (l : List ℕ). put_at l (p + 1) name) (e ∙ first-put)
      ∙ ap₂ (λ (a b : List ℕ). a ++ (name ++ b)) (take_at (1 ∷ prefix) z (p + 1) at)
      (ap (λ (k : ℕ). drop k ((1 ∷ prefix) ++ z)) to ∙ drop-append-add (1 ∷ prefix) z n ∙ behind)
      ∙ ap (λ (l : List ℕ). 1 ∷ l)
      (sym (append_assoc prefix name (0 ∷ 0 ∷ 0 ∷ 0 ∷ 0 ∷ zeros left))
      ∙ sym (append_assoc (prefix ++ name) (0 ∷ 0 ∷ 0 ∷ 0 ∷ []) (0 ∷ zeros left)))

  pub message_is : (m₁ m₂ : List ℕ) → m₁ ≡ put_at (set (replicate 38 0) 0 1) 1 prefix → m₂ ≡ put_at m₁ (p + 1) name
      → take (p + n + 6) (set m₂ (p + n + 5) 0x80) ≡ labelled (prefix ++ name)
  unfolding labelled
  message_is m₁ m₂ e₁ e₂ =
      let xs = front ++ 0 ∷ 0 ∷ 0 ∷ 0 ∷ [] in
      let sized : length xs ≡ p + n + 5 = length-append front (0 ∷ 0 ∷ 0 ∷ 0 ∷ []) ∙ ap (λ (k : ℕ). suc k + 4) (length-append prefix name) ∙ omega arith in
      let done : length (xs ++ 0x80 ∷ []) ≡ p + n + 6 = length-append xs (0x80 ∷ []) ∙ omega arith in
      ap₂ (λ (l : List ℕ) (k : ℕ). take (p + n + 6) (set l k 0x80)) (e₂ ∙ second-put m₁ e₁) (sym sized)
      ∙ ap (take (p + n + 6)) (set-append_seam xs 0 (zeros left) 0x80 ∙ sym (append_assoc xs (0x80 ∷ []) (zeros left)))
      ∙ take_at (xs ++ 0x80 ∷ []) (zeros left) (p + n + 6) done
      ∙ append_assoc front (0 ∷ 0 ∷ 0 ∷ 0 ∷ []) (0x80 ∷ [])
