-- Counter mode, block by block. Assumes nothing.
use Rattle.std.proofs.Common.{◌≡◌, ℕ, suc, ◌+◌, ◌*◌, ◌/◌, ◌%◌, ◌^◌, ◌<◌, ◌≤◌, List, [], ◌∷◌, ◌++◌, length, get_or, take, drop, set, sym, refl, ap, ◌∙◌, ap₂, append_assoc, append-nil, add-zero, add-one, arith, length-append, length-drop, take-append-drop, drop_of_length-le, length-take, length-take-le, take_all, drop-cons, take-suc-set, take_at, get_or-append-add, drop-set-lt, drop_at}
use mathlib.Core.List.{zip_with}
use native.Mathlib.Nat.{div-div-eq-div-mul}
use lib.Bits.{bit_xor}
use lib.ListN.{get_or-append}
use lib.Pow.{mod-mod-pow}
use lib.Seq.{append_snoc}
use Rattle.cipher.specs.Aes.{State, number_word, word_at, word_bytes, state_of, block_of, xor_word, add_round_key}
use Rattle.cipher.specs.FirstRound.{shared_round}
use Rattle.cipher.specs.Cmac.{xor_bytes}
use Rattle.cipher.specs.Ctr.{be64, counter_block, stream_byte, ctr_from}
use Rattle.cipher.proofs.Words.{word-ext, state-ext}
use Rattle.cipher.proofs.States.{block-state, block-sum}
use Rattle.cipher.proofs.SharedRound.{shared_same}
use Rattle.cipher.proofs.Chain.{xor-length}
use Rattle.cipher.proofs.CtrLaws.{byte-wraps, from-length}

-- the counter block's four words
module _ (iv : List ℕ) (count : ℕ) (h : length iv ≡ 8) where
  in-iv : (i : ℕ) → i < 8 → get_or iv i 0 ≡ get_or (counter_block iv count) i 0
  unfolding counter_block
  in-iv i k = sym (get_or-append iv (be64 count) 0 i (omega arith))

  in_count : (i j : ℕ) → i ≡ 8 + j → get_or (be64 count) j 0 ≡ get_or (counter_block iv count) i 0
  unfolding counter_block
  in_count i j e =
      let at : length iv + j ≡ i = omega arith in
      sym (get_or-append-add iv (be64 count) j 0) ∙ ap (λ (k : ℕ). get_or (iv ++ be64 count) k 0) at

  high : (k : ℕ) → count / 2 ^ 32 / 2 ^ k % 256 ≡ count / (2 ^ 32 * 2 ^ k) % 256
  high k = ap (λ (n : ℕ). n % 256) (div-div-eq-div-mul count (2 ^ 32) (2 ^ k))

  pub counter_words : state_of (counter_block iv count)
      ≡ record { c0 = word_at iv 0; c1 = word_at iv 4; c2 = number_word (count / 2 ^ 32); c3 = number_word (count % 2 ^ 32) }
  unfolding state_of word_at number_word be64
  counter_words =
      sym
      (state-ext (word-ext (in-iv 0 (omega arith)) (in-iv 1 (omega arith)) (in-iv 2 (omega arith)) (in-iv 3 (omega arith)))
      (word-ext (in-iv 4 (omega arith)) (in-iv 5 (omega arith)) (in-iv 6 (omega arith)) (in-iv 7 (omega arith)))
      (word-ext (high 24 ∙ in_count 8 0 refl) (high 16 ∙ in_count 9 1 refl) (high 8 ∙ in_count 10 2 refl) (in_count 11 3 refl))
      (word-ext (byte-wraps count 0 24 ∙ in_count 12 4 refl) (byte-wraps count 8 16 ∙ in_count 13 5 refl) (byte-wraps count 16 8 ∙ in_count 14 6 refl)
      (mod-mod-pow count 24 8 ∙ in_count 15 7 refl)))

-- the count's high word is the same until its low word starts again
pub same-high : (count next : ℕ) → count < 2 ^ 64 → next ≡ (count + 1) % 2 ^ 64 → 0 < next % 2 ^ 32 → count / 2 ^ 32 ≡ next / 2 ^ 32
same-high count next h e k = omega arith

-- the count of the next block
pub next-count : (at count i : ℕ) → at ≡ (count + i) % 2 ^ 64 → (at + 1) % 2 ^ 64 ≡ (count + (i + 1)) % 2 ^ 64
next-count at count i e = omega arith

-- so long the counter blocks share their first round, but for the last column
pub shared-next : (w : ℕ → State) (iv : List ℕ) (count next : ℕ) → length iv ≡ 8 → count / 2 ^ 32 ≡ next / 2 ^ 32
    → shared_round w (state_of (counter_block iv count)) ≡ shared_round w (state_of (counter_block iv next))
shared-next w iv count next h e =
    let block : ℕ → ℕ → State = λ high low. record { c0 = word_at iv 0; c1 = word_at iv 4; c2 = number_word high; c3 = number_word low } in
    ap (shared_round w) (counter_words iv count h) ∙ shared_same w _ _ _ _ (number_word (next % 2 ^ 32))
    ∙ ap (λ (q : ℕ). shared_round w (block q (next % 2 ^ 32))) e ∙ sym (ap (shared_round w) (counter_words iv next h))

-- four words of a block, each with its own added
pub words-added : (k : State) (l l₁ l₂ l₃ l₄ : List ℕ) → length l ≡ 16
    → l₁ ≡ take 0 l ++ word_bytes (xor_word (word_at l 0) k.c0) ++ drop 4 l
    → l₂ ≡ take 4 l₁ ++ word_bytes (xor_word (word_at l₁ 4) k.c1) ++ drop 8 l₁
    → l₃ ≡ take 8 l₂ ++ word_bytes (xor_word (word_at l₂ 8) k.c2) ++ drop 12 l₂
    → l₄ ≡ take 12 l₃ ++ word_bytes (xor_word (word_at l₃ 12) k.c3) ++ drop 16 l₃
    → l₄ ≡ xor_bytes l (block_of k)
unfolding word_bytes block_of word_at state_of add_round_key xor_word
words-added k l l₁ l₂ l₃ l₄ h e₁ e₂ e₃ e₄ =
    let s = state_of l in
    let whole : l ≡ block_of s = sym (block-state l (omega arith) ∙ take_all 16 l (omega arith)) in
    let f₁ = e₁ ∙ ap (λ (x : List ℕ). take 0 x ++ word_bytes (xor_word (word_at x 0) k.c0) ++ drop 4 x) whole in
    let f₂ = e₂ ∙ ap (λ (x : List ℕ). take 4 x ++ word_bytes (xor_word (word_at x 4) k.c1) ++ drop 8 x) f₁ in
    let f₃ = e₃ ∙ ap (λ (x : List ℕ). take 8 x ++ word_bytes (xor_word (word_at x 8) k.c2) ++ drop 12 x) f₂ in
    let f₄ = e₄ ∙ ap (λ (x : List ℕ). take 12 x ++ word_bytes (xor_word (word_at x 12) k.c3) ++ drop 16 x) f₃ in
    f₄ ∙ block-sum k s ∙ ap (λ (x : List ℕ). xor_bytes x (block_of k)) (sym whole)

-- the bytes before i are done, and those from i on as lent: one byte more
pub front-step : (part s : List ℕ) (i : ℕ) → i < length part → i < length s
    → let v = bit_xor (get_or part i 0) (get_or s i 0) in
    take (i + 1) (set part i v) ++ xor_bytes (drop (i + 1) (set part i v)) (drop (i + 1) s) ≡ take i part ++ xor_bytes (drop i part) (drop i s)
unfolding xor_bytes zip_with
front-step part s i h k =
    let v = bit_xor (get_or part i 0) (get_or s i 0) in
    rw (add-one i, take-suc-set part i v h, drop-set-lt (suc i) part i v (omega arith), drop-cons part i 0 h, drop-cons s i 0 k)
    (append_snoc (take i part) v (xor_bytes (drop (suc i) part) (drop (suc i) s)))

pub front-done : (part s : List ℕ) (i : ℕ) → length part ≤ i → part ≡ take i part ++ xor_bytes (drop i part) (drop i s)
unfolding xor_bytes zip_with
front-done part s i h = rw (take_all i part h, drop_of_length-le part {i = i} h) (sym (append-nil part))

module _ (ciph : List ℕ → List ℕ) (iv : List ℕ) (count : ℕ) where
  from-append : (j : ℕ) (a b : List ℕ) → ctr_from ciph iv count j (a ++ b) ≡ ctr_from ciph iv count j a ++ ctr_from ciph iv count (j + length a) b
  unfolding ctr_from
  from-append j [] b = ap (λ (k : ℕ). ctr_from ciph iv count k b) (sym (add-zero j))
  from-append j (x ∷ a) b =
      ap (λ (l : List ℕ). bit_xor x (stream_byte ciph iv count j) ∷ l)
      (from-append (suc j) a b ∙ ap (λ (k : ℕ). ctr_from ciph iv count (suc j) a ++ ctr_from ciph iv count k b) (omega arith))

  -- within one block of the key stream
  from_block : (n u : ℕ) (s d : List ℕ) → s ≡ ciph (counter_block iv ((count + n) % 2 ^ 64)) → length s ≡ 16 → u + length d ≤ 16
      → ctr_from ciph iv count (16 * n + u) d ≡ xor_bytes d (drop u s)
  unfolding ctr_from stream_byte xor_bytes zip_with
  from_block n u s [] e h k = refl
  from_block n u s (x ∷ d) e h k =
      let quotient : (16 * n + u) / 16 ≡ n = omega arith in
      let remainder : (16 * n + u) % 16 ≡ u = omega arith in
      let next : suc (16 * n + u) ≡ 16 * n + suc u = omega arith in
      rw (quotient, remainder, ← e, next, drop-cons s u 0 (omega arith))
      (ap (λ (l : List ℕ). bit_xor x (get_or s u 0) ∷ l) (from_block n (suc u) s d e h (omega arith)))

  -- the bytes before i are done, and those from i on as lent: n bytes more, at most a block
  pub block-step : (buf new part s : List ℕ) (i n blocks : ℕ) → i ≡ 16 * blocks → n ≤ 16 → i + n ≤ length buf → length s ≡ 16
      → s ≡ ciph (counter_block iv ((count + blocks) % 2 ^ 64)) → part ≡ xor_bytes (take n (drop i buf)) s
      → new ≡ take i buf ++ (part ++ drop n (drop i buf))
      → take (i + n) new ++ ctr_from ciph iv count (i + n) (drop (i + n) new) ≡ take i buf ++ ctr_from ciph iv count i (drop i buf)
  block-step buf new part s i n blocks hi hn hb hs es ep en =
      let d = drop i buf in
      let front = take i buf ++ part in
      let rest = drop n d in
      let here : new ≡ front ++ rest = en ∙ sym (append_assoc (take i buf) part rest) in
      let size : length (take n d) ≡ n = length-take-le n d (rw length-drop (omega arith)) in
      let done : length part ≡ n = ap length ep ∙ xor-length (take n d) s (omega arith) ∙ size in
      let at : length front ≡ i + n = length-append (take i buf) part ∙ ap (λ (k : ℕ). k + length part) (length-take i buf) ∙ omega arith in
      let block : ctr_from ciph iv count i (take n d) ≡ part =
      ap (λ (k : ℕ). ctr_from ciph iv count k (take n d)) (hi ∙ sym (add-zero (16 * blocks)))
      ∙ from_block blocks 0 s (take n d) es hs (omega arith) ∙ sym ep in
      ap₂ (λ (x y : List ℕ). x ++ ctr_from ciph iv count (i + n) y) (ap (take (i + n)) here ∙ take_at front rest (i + n) at)
      (ap (drop (i + n)) here ∙ drop_at front rest (i + n) at)
      ∙ append_assoc (take i buf) part (ctr_from ciph iv count (i + n) rest)
      ∙ ap (λ (x : List ℕ). take i buf ++ x)
      (ap₂ (λ (x : List ℕ) (k : ℕ). x ++ ctr_from ciph iv count (i + k) rest) (sym block) (sym size)
      ∙ sym (from-append i (take n d) rest) ∙ ap (ctr_from ciph iv count i) (take-append-drop n d))

  -- no byte is left
  pub ctr-done : (buf : List ℕ) (i : ℕ) → length buf ≤ i → buf ≡ take i buf ++ ctr_from ciph iv count i (drop i buf)
  unfolding ctr_from
  ctr-done buf i h = rw (take_all i buf h, drop_of_length-le buf {i = i} h) (sym (append-nil buf))

  -- the bytes before i are done together, and those from i on as lent
  module _ (l w : List ℕ) (i : ℕ) (h : i ≤ length l) (e : w ≡ ctr_from ciph iv count 0 (take i l)) where
    front_length : length w ≡ i
    front_length = ap length e ∙ from-length ciph iv count 0 (take i l) ∙ length-take-le i l h

    pub apart-length : length (w ++ drop i l) ≡ length l
    apart-length = length-append w (drop i l) ∙ rw (front_length, length-drop) (omega arith)

    pub apart-done : take i (w ++ drop i l) ++ ctr_from ciph iv count i (drop i (w ++ drop i l)) ≡ ctr_from ciph iv count 0 l
    apart-done =
        let r = drop i l in
        let front : length (take i l) ≡ i = length-take-le i l h in
        let at : i ≡ 0 + length (take i l) = omega arith in
        ap₂ (λ (x y : List ℕ). x ++ ctr_from ciph iv count i y) (take_at w r i front_length) (drop_at w r i front_length)
        ∙ ap₂ (λ (x : List ℕ) (k : ℕ). x ++ ctr_from ciph iv count k r) e at
        ∙ sym (from-append 0 (take i l) r) ∙ ap (ctr_from ciph iv count 0) (take-append-drop i l)
