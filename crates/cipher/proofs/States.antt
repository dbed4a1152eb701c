-- States and the sixteen bytes that they stand for. Assumes nothing.
use Rattle.std.proofs.Common.{◌≡◌, ℕ, zero, suc, ◌+◌, ◌-◌, ◌*◌, ◌/◌, ◌<◌, ◌≤◌, List, [], ◌∷◌, length, get_or, take, drop, sym, refl, ap, ◌∙◌, ap₂, arith, get_or-drop, length-drop, length-take-le, take_all, drop-cons, drop-drop}
use Rattle.std.specs.Simd.{first_chunks}
use mathlib.Core.List.{zip_with}
use Rattle.cipher.specs.Aes.{State, word_at, state_of, word_bytes, block_of, xor_word, add_round_key, cipher, kept_key, encrypt_with}
use Rattle.cipher.specs.Sbox.{table_from}
use Rattle.cipher.specs.Cmac.{xor_bytes, chain}
use Rattle.cipher.proofs.Words.{word-ext}

-- a word further on is the same word of what stands there
pub word-drop : (l : List ℕ) (i j : ℕ) → word_at l (i + j) ≡ word_at (drop i l) j
unfolding word_at
word-drop l i j =
    let at : (k : ℕ) → get_or l (i + j + k) 0 ≡ get_or (drop i l) (j + k) 0 = λ k. ap (λ (n : ℕ). get_or l n 0) (omega arith) ∙ sym (get_or-drop i l (j + k) 0) in
    word-ext (sym (get_or-drop i l j 0)) (at 1) (at 2) (at 3)

-- a state's bytes, read back
pub state-block : (s : State) → state_of (block_of s) ≡ s
unfolding state_of block_of word_at word_bytes
state-block s = refl

-- the bytes of a sum are the sum of the bytes
pub block-sum : (k s : State) → block_of (add_round_key k s) ≡ xor_bytes (block_of s) (block_of k)
unfolding block_of word_bytes add_round_key xor_word xor_bytes zip_with
block-sum k s = refl

-- the first elements of a list, one by one
table-take : (n k : ℕ) (l : List ℕ) → k + n ≤ length l → table_from (λ i. get_or l i 0) n k ≡ take n (drop k l)
unfolding table_from
table-take zero k l h = refl
table-take (suc n) k l h =
    ap (λ (t : List ℕ). get_or l k 0 ∷ t) (table-take n (suc k) l (omega arith)) ∙ sym (ap (take (suc n)) (drop-cons l k 0 (omega arith)))

-- a block's state, written out
pub block-state : (l : List ℕ) → 16 ≤ length l → block_of (state_of l) ≡ take 16 l
unfolding state_of block_of word_at word_bytes table_from
block-state l h = table-take 16 0 l h

-- a sum of a block and a state, in bytes
pub sum-block : (k s n : State) (l b : List ℕ) → n ≡ add_round_key k s → s ≡ state_of l → length l ≡ 16 → block_of k ≡ b → block_of n ≡ xor_bytes l b
sum-block k s n l b e f h g =
    ap block_of (e ∙ ap (add_round_key k) f) ∙ block-sum k (state_of l) ∙ ap₂ xor_bytes (block-state l (omega arith) ∙ take_all 16 l (omega arith)) g

-- an encrypted state, in bytes
pub encrypted : (ks b : List ℕ) (s n : State) → n ≡ cipher (kept_key ks) s → block_of s ≡ b → block_of n ≡ encrypt_with ks b
unfolding encrypt_with
encrypted ks b s n e f = ap block_of (e ∙ ap (cipher (kept_key ks)) (sym (state-block s) ∙ ap state_of f))

-- a block added to a state and encrypted, in bytes
pub chain_link : (ks m : List ℕ) (s x n : State) → 16 ≤ length m → x ≡ add_round_key (state_of m) s → n ≡ cipher (kept_key ks) x
    → block_of n ≡ encrypt_with ks (xor_bytes (block_of s) (take 16 m))
chain_link ks m s x n h f e = encrypted ks _ x n e (ap block_of f ∙ block-sum (state_of m) s ∙ ap (xor_bytes (block_of s)) (block-state m h))

-- a chunk of a message
pub chunk-at : (k i : ℕ) (l : List ℕ) → i < k → get_or (first_chunks 16 k l) i [] ≡ take 16 (drop (16 * i) l)
chunk-at zero i l h = absurd (omega arith)
chunk-at (suc k) zero l h = refl
chunk-at (suc k) (suc i) l h =
    let on : 16 + 16 * i ≡ 16 * suc i = omega arith in
    chunk-at k i (drop 16 l) (omega arith) ∙ ap (take 16) (drop-drop (16 * i) 16 l ∙ ap (λ (n : ℕ). drop n l) on)

-- a chunk added to a state and encrypted, in bytes
pub chunk_link : (ks l b : List ℕ) (i : ℕ) (s x n : State) → i < length l / 16 → b ≡ take 16 (drop (16 * i) l)
    → x ≡ add_round_key (state_of b) s → n ≡ cipher (kept_key ks) x
    → block_of n ≡ encrypt_with ks (xor_bytes (block_of s) (take 16 (drop (16 * i) l)))
chunk_link ks l b i s x n h e f g =
    let d = drop (16 * i) l in
    let sized : length (take 16 d) ≡ 16 = length-take-le 16 d (rw length-drop (omega arith)) in
    chain_link ks (take 16 d) s x n (omega arith) (f ∙ ap (λ (m : List ℕ). add_round_key (state_of m) s) e) g
    ∙ ap (λ (m : List ℕ). encrypt_with ks (xor_bytes (block_of s) m)) (take_all 16 (take 16 d) (omega arith))

-- one block of the chain
pub chain-step : (ciph : List ℕ → List ℕ) (l c n : List ℕ) (i : ℕ) → i < length l / 16 → n ≡ ciph (xor_bytes c (take 16 (drop (16 * i) l)))
    → chain ciph (length l / 16 - (i + 1)) n (drop (16 * (i + 1)) l) ≡ chain ciph (length l / 16 - i) c (drop (16 * i) l)
unfolding chain
chain-step ciph l c n i h e =
    let more : length l / 16 - i ≡ suc (length l / 16 - (i + 1)) = omega arith in
    let on : 16 * i + 16 ≡ 16 * (i + 1) = omega arith in
    rw more (ap₂ (chain ciph (length l / 16 - (i + 1))) e (sym (drop-drop 16 (16 * i) l ∙ ap (λ (k : ℕ). drop k l) on)))
