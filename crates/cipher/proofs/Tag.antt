-- The finished state's block is SP 800-38B's tag of the message. Assumes nothing.
use Rattle.std.proofs.Common.{◌≡◌, ℕ, zero, suc, ◌+◌, ◌-◌, ◌*◌, ◌/◌, ◌<◌, ◌≤◌, min, ltb, List, [], ◌∷◌, ◌++◌, length, get_or, take, drop, replicate, sym, refl, ap, ◌∙◌, ap₂, append_assoc, append-nil, add-zero, zero-add, add-one, arith, length-append, length-drop, take-append-drop, length-take, drop-drop, ltb-false, ltb-true, eq-eqb, ne_eqb}
use mathlib.Core.Path.{fun_ext}
use mathlib.Core.List.{zip_with, foldl, foldl-append, flatten}
use native.Mathlib.Nat.{min-eq_left}
use lib.Bits.{bit_xor, xor_zero_r}
use Rattle.cipher.specs.declared.cmac.CmacState.{CmacState}
use Rattle.cipher.specs.Aes.{encrypt_with, expand_key}
use Rattle.cipher.specs.Cmac.{xor_bytes, subkey1, subkey2, last_block, chain, before, cmac_over, cmac}
use Rattle.cipher.specs.CmacState.{keyed, begun, clamped, xor_at, xor_from, fed_byte, fed, closed_block, finished}
use Rattle.cipher.specs.Kdf.{labelled, kdf}
use Rattle.cipher.specs.Laws.{TagOfParts, OneShot}
use Rattle.cipher.proofs.Xor.{xor_assoc}
use Rattle.cipher.proofs.Cases.{by-test}
use Rattle.cipher.proofs.Lengths.{with-length}
use Rattle.cipher.proofs.Fold.{state, fed_short, fed_full}
use Rattle.cipher.proofs.Feeds.{fed-keys, feed_parts}
use Rattle.cipher.proofs.Expanded.{encrypt_expanded}

pub xor-bytes-assoc : (a b c : List ℕ) → xor_bytes (xor_bytes a b) c ≡ xor_bytes a (xor_bytes b c)
unfolding xor_bytes zip_with
xor-bytes-assoc [] b c = refl
xor-bytes-assoc (x ∷ a) [] c = refl
xor-bytes-assoc (x ∷ a) (y ∷ b) [] = refl
xor-bytes-assoc (x ∷ a) (y ∷ b) (z ∷ c) = ap₂ (λ (u : ℕ) (l : List ℕ). u ∷ l) (xor_assoc x y z) (xor-bytes-assoc a b c)

xor-later : (x : ℕ) (c : List ℕ) (p : ℕ) (w : List ℕ) → xor_from (x ∷ c) (suc p) w ≡ x ∷ xor_from c p w
unfolding xor_at
xor-later x c p [] = refl
xor-later x c p (b ∷ w) = xor-later x (xor_at c p b) (suc p) w

-- what is added to a block, and zeros behind it
pub xor-from : (c w : List ℕ) (k : ℕ) → length c ≡ length w + k → xor_from c 0 w ≡ xor_bytes c (w ++ replicate k 0)
unfolding xor_bytes zip_with xor_at
xor-from [] [] zero e = refl
xor-from [] [] (suc k) e = refl
xor-from [] (b ∷ w) k e = absurd (omega arith)
xor-from (x ∷ c) [] zero e = absurd (omega arith)
xor-from (x ∷ c) [] (suc k) e = ap₂ (λ (u : ℕ) (l : List ℕ). u ∷ l) (sym (xor_zero_r x)) (xor-from c [] k (omega arith))
xor-from (x ∷ c) (b ∷ w) k e = xor-later (bit_xor x b) c 0 w ∙ ap (λ (l : List ℕ). bit_xor x b ∷ l) (xor-from c w k (omega arith))

xor-length : (c : List ℕ) (p : ℕ) (w : List ℕ) → xor_from c p (w ++ 0x80 ∷ []) ≡ xor_at (xor_from c p w) (p + length w) 0x80
xor-length c p [] = rw add-zero
xor-length c p (b ∷ w) = xor-length (xor_at c p b) (suc p) w ∙ ap (λ (i : ℕ). xor_at (xor_from (xor_at c p b) (suc p) w) i 0x80) (omega arith)

-- the bit 1 behind w, which is less than a block
xor-padded : (c w : List ℕ) → length c ≡ 16 → length w < 16
    → xor_at (xor_from c 0 w) (length w) 0x80 ≡ xor_bytes c (w ++ 0x80 ∷ replicate (15 - length w) 0)
xor-padded c w hc hw =
    let k = 15 - length w in
    ap (λ (i : ℕ). xor_at (xor_from c 0 w) i 0x80) (sym (zero-add (length w)))
    ∙ sym (xor-length c 0 w)
    ∙ xor-from c (w ++ 0x80 ∷ []) k (rw length-append (omega arith))
    ∙ ap (xor_bytes c) (append_assoc w (0x80 ∷ []) (replicate k 0))

module _ (keys : List ℕ) where
  abbrev ciph : List ℕ → List ℕ
  ciph = encrypt_with keys

  -- bytes that fit in the block
  pub fold-within : (w c : List ℕ) (p : ℕ) → p + length w ≤ 16 → foldl fed_byte (state c p keys) w ≡ state (xor_from c p w) (p + length w) keys
  unfolding xor_at
  fold-within [] c p h = ap (λ (i : ℕ). state c i keys) (sym (add-zero p))
  fold-within (b ∷ w) c p h =
      ap (λ (s : CmacState). foldl fed_byte s w) (fed_short c keys p b (omega arith) ∙ ap (λ (i : ℕ). state (xor_at c p b) i keys) (add-one p))
      ∙ fold-within w (xor_at c p b) (suc p) (omega arith) ∙ ap (λ (i : ℕ). state (xor_from (xor_at c p b) (suc p) w) i keys) (omega arith)

  -- a full block is encrypted when the next byte comes
  fold_next : (x : List ℕ) (b : ℕ) (w : List ℕ) → foldl fed_byte (state x 16 keys) (b ∷ w) ≡ foldl fed_byte (state (ciph x) 0 keys) (b ∷ w)
  fold_next x b w =
      ap (λ (s : CmacState). foldl fed_byte s w) (fed_full x keys 16 b (omega arith) ∙ sym (fed_short (ciph x) keys 0 b (omega arith)))

  -- the message's last block
  pub close-last : (c w : List ℕ) → length c ≡ 16 → length w ≤ 16
      → closed_block (xor_from c 0 w) (length w) (subkey1 ciph) (subkey2 ciph) ≡ xor_bytes c (last_block ciph w)
  unfolding closed_block last_block
  close-last c w hc hw =
      by-test (ltb (length w) 16)
      (λ e.
      let h = ltb-true (length w) 16 e in
      rw (e, ne_eqb (length w) 16 (λ q. omega arith))
      (ap (λ (l : List ℕ). xor_bytes l (subkey2 ciph)) (xor-padded c w hc h)
      ∙ xor-bytes-assoc c (w ++ 0x80 ∷ replicate (15 - length w) 0) (subkey2 ciph)))
      (λ e.
      let h = ltb-false (length w) 16 e in
      let full : length w ≡ 16 = omega arith in
      rw (e, eq-eqb (length w) 16 full)
      (ap (λ (l : List ℕ). xor_bytes l (subkey1 ciph)) (xor-from c w 0 (omega arith) ∙ ap (xor_bytes c) (append-nil w))
      ∙ xor-bytes-assoc c w (subkey1 ciph)))

  pub fold_more : (x w : List ℕ) → 0 < length w → foldl fed_byte (state x 16 keys) w ≡ foldl fed_byte (state (ciph x) 0 keys) w
  fold_more x [] h = absurd (omega arith)
  fold_more x (b ∷ w) h = fold_next x b w

  -- a message of n whole blocks and a last one, from the chaining block c
  pub fold-blocks : (n : ℕ) (c m : List ℕ) → length c ≡ 16 → n ≡ (length m - 1) / 16
      → foldl fed_byte (state c 0 keys) m ≡ state (xor_from (chain ciph n c m) 0 (drop (16 * n) m)) (length (drop (16 * n) m)) keys
  unfolding chain
  fold-blocks zero c m hc hn = fold-within m c 0 (omega arith) ∙ ap (λ (p : ℕ). state (xor_from c 0 m) p keys) (zero-add (length m))
  fold-blocks (suc n) c m hc hn =
      let front = take 16 m in
      let rest = drop 16 m in
      let long : 16 < length m = omega arith in
      let sixteen : length front ≡ 16 = length-take 16 m ∙ omega arith in
      let x = xor_bytes c front in
      let next : 16 + 16 * n ≡ 16 * suc n = omega arith in
      let filled : foldl fed_byte (state c 0 keys) front ≡ state x 16 keys =
      fold-within front c 0 (omega arith)
      ∙ ap₂ (λ (l : List ℕ) (p : ℕ). state l p keys) (xor-from c front 0 (omega arith) ∙ ap (xor_bytes c) (append-nil front)) (omega arith) in
      ap (foldl fed_byte (state c 0 keys)) (sym (take-append-drop 16 m))
      ∙ foldl-append fed_byte (state c 0 keys) front rest
      ∙ ap (λ (s : CmacState). foldl fed_byte s rest) filled
      ∙ fold_more x rest (rw length-drop (omega arith))
      ∙ fold-blocks n (ciph x) rest (with-length keys x) (rw length-drop (omega arith))
      ∙ ap (λ (l : List ℕ). state (xor_from (chain ciph n (ciph x) rest) 0 l) (length l) keys) (drop-drop (16 * n) 16 m ∙ ap (λ (k : ℕ). drop k m) next)

  pub chain_length : (n : ℕ) (c m : List ℕ) → length c ≡ 16 → length (chain ciph n c m) ≡ 16
  unfolding chain
  chain_length zero c m h = h
  chain_length (suc n) c m h = chain_length n (ciph (xor_bytes c (take 16 m))) (drop 16 m) (with-length keys _)

  tag-blocks : (c m : List ℕ) → length c ≡ 16
      → let s = foldl fed_byte (state c 0 keys) m in
      let n = (length m - 1) / 16 in
      closed_block s.block (min s.pending 16) (subkey1 ciph) (subkey2 ciph) ≡ xor_bytes (chain ciph n c m) (last_block ciph (drop (16 * n) m))
  tag-blocks c m hc =
      let n = (length m - 1) / 16 in
      let w = drop (16 * n) m in
      let short : length w ≤ 16 = rw length-drop (omega arith) in
      let close : CmacState → List ℕ = λ s. closed_block s.block (min s.pending 16) (subkey1 ciph) (subkey2 ciph) in
      ap close (fold-blocks n c m hc refl)
      ∙ ap (λ (p : ℕ). closed_block (xor_from (chain ciph n c m) 0 w) p (subkey1 ciph) (subkey2 ciph)) (min-eq_left short)
      ∙ close-last (chain ciph n c m) w (chain_length n c m hc) short

finish-block : (s : CmacState) (ks : List ℕ) → s.keys ≡ ks
    → (finished s).block ≡ encrypt_with ks (closed_block s.block (min s.pending 16) (subkey1 (encrypt_with ks)) (subkey2 (encrypt_with ks)))
unfolding finished
finish-block s ks e = ap (λ (k : List ℕ). encrypt_with k (closed_block s.block (min s.pending 16) (subkey1 (encrypt_with k)) (subkey2 (encrypt_with k)))) e

tag-over : (key m : List ℕ) → (finished (fed (keyed key) m)).block ≡ cmac_over (encrypt_with (expand_key key)) m
unfolding cmac_over before fed clamped keyed
tag-over key m =
    finish-block (fed (keyed key) m) (expand_key key) (fed-keys (keyed key) m)
    ∙ ap (encrypt_with (expand_key key)) (tag-blocks (expand_key key) (replicate 16 0) m refl)

tag-whole : (key m : List ℕ) → ((i : ℕ) → get_or key i 0 < 256) → (finished (fed (keyed key) m)).block ≡ cmac key m
unfolding cmac
tag-whole key m h = tag-over key m ∙ ap (λ (f : List ℕ → List ℕ). cmac_over f m) (fun_ext (encrypt_expanded key h))

pub tag-of-parts : TagOfParts
unfolding begun keyed
tag-of-parts key bytes s e parts =
    ap (λ (t : CmacState). (finished t).block)
    (ap (λ (ks : List ℕ). foldl fed (state (replicate 16 0) 0 ks) parts) e ∙ feed_parts (keyed key) parts (omega arith))
    ∙ tag-whole key (flatten parts) bytes

-- the parts in turn, from a state that is made for the key
from-keyed : (key : List ℕ) → ((i : ℕ) → get_or key i 0 < 256) → (parts : List (List ℕ))
    → cmac key (flatten parts) ≡ (finished (foldl fed (begun (keyed key)) parts)).block
unfolding keyed
from-keyed key bytes parts = sym (tag-of-parts key bytes (keyed key) refl parts)

pub one-shot-law : OneShot
unfolding kdf labelled flatten
one-shot-law = record {
  whole = λ key bytes m. ap (cmac key) (sym (append-nil m)) ∙ from-keyed key bytes (m ∷ []);
  parts = λ key bytes a b. ap (λ (l : List ℕ). cmac key (a ++ l)) (sym (append-nil b)) ∙ from-keyed key bytes (a ∷ b ∷ []);
  label = λ key bytes a b.
      let end : List ℕ = 0 ∷ 0 ∷ 0 ∷ 0 ∷ 0x80 ∷ [] in
      ap (λ (l : List ℕ). cmac key (1 ∷ l)) (append_assoc a b end) ∙ from-keyed key bytes ((1 ∷ []) ∷ a ∷ b ∷ end ∷ []);
}
