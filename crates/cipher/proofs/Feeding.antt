-- What the code of CMAC does with whole blocks is what feeding byte by byte does. Assumes nothing.
use Rattle.std.proofs.Common.{◌≡◌, ℕ, zero, suc, ◌+◌, ◌-◌, ◌*◌, ◌/◌, ◌<◌, ◌≤◌, min, List, [], ◌∷◌, length, get_or, take, drop, replicate, sym, refl, ap, ◌∙◌, ap₂, arith, length-drop, take-append-drop, length-take, length-take-le, take_all, take-take}
use mathlib.Core.List.{foldl}
use lib.Seq.{take-nil}
use Rattle.cipher.specs.declared.cmac.CmacState.{CmacState}
use Rattle.cipher.specs.Aes.{expand_key, encrypt_with}
use Rattle.cipher.specs.Cmac.{xor_bytes, double, subkey1, subkey2, last_block, chain, before, cmac_over, cmac}
use Rattle.cipher.specs.CmacState.{xor_from, clamped, fed_byte, fed, closed_block}
use Rattle.cipher.proofs.Expanded.{same-cipher}
use Rattle.cipher.proofs.Lengths.{with-length}
use Rattle.cipher.proofs.Fold.{state}
use Rattle.cipher.proofs.Feeds.{feed_append}
use Rattle.cipher.proofs.Tag.{xor-bytes-assoc, xor-from, fold-within, fold_more, fold-blocks, close-last, chain_length}

-- a part up to the end
pub to_end : (e : ℕ) (l : List ℕ) → take (length l - e) (drop e l) ≡ drop e l
to_end e l = take_all (length l - e) (drop e l) (rw length-drop (omega arith))

drop-front : (j k : ℕ) (l : List ℕ) → j ≤ k → drop j (take k l) ≡ take (k - j) (drop j l)
drop-front zero k l h = let e : k - 0 ≡ k = omega arith in rw e
drop-front (suc j) zero l h = absurd (omega arith)
drop-front (suc j) (suc k) [] h = let e : suc k - suc j ≡ k - j = omega arith in rw e (sym (take-nil (k - j)))
drop-front (suc j) (suc k) (x ∷ l) h = let e : suc k - suc j ≡ k - j = omega arith in rw e (drop-front j k l (omega arith))

module _ (keys : List ℕ) where
  abbrev ciph : List ℕ → List ℕ
  ciph = encrypt_with keys

  -- a chain of n blocks reads no more than those
  chain-front : (n k : ℕ) (c m : List ℕ) → 16 * n ≤ k → chain ciph n c (take k m) ≡ chain ciph n c m
  unfolding chain
  chain-front zero k c m h = refl
  chain-front (suc n) k c m h =
      ap₂ (λ (f r : List ℕ). chain ciph n (ciph (xor_bytes c f)) r) (take-take 16 k m (omega arith)) (drop-front 16 k m (omega arith))
      ∙ chain-front n (k - 16) (ciph (xor_bytes c (take 16 m))) (drop 16 m) (omega arith)

  -- the whole blocks of m before its last, cut off
  chain-cut : (c m : List ℕ) (e : ℕ) → e ≡ 16 * ((length m - 1) / 16)
      → chain ciph (length (take e m) / 16) c (take e m) ≡ chain ciph ((length m - 1) / 16) c m
  chain-cut c m e h =
      let n = (length m - 1) / 16 in
      let sized : length (take e m) / 16 ≡ n = simp length-take (omega arith) in
      rw sized (chain-front n e c m (omega arith))

  -- bytes that fit in the pending block
  pub absorbed_short : (block d filled : List ℕ) (pending p n : ℕ) → p ≡ min pending 16 → n ≡ length d → p + n ≤ 16 → filled ≡ xor_from block p d
      → state filled (p + n) keys ≡ fed (state block pending keys) d
  unfolding fed clamped
  absorbed_short block d filled pending p n hp hn h e =
      ap₂ (λ (l : List ℕ) (k : ℕ). state l (p + k) keys) e hn
      ∙ sym (fold-within keys d block p (omega arith))
      ∙ ap (λ (k : ℕ). foldl fed_byte (state block k keys) d) hp

  -- a full block first, then what is behind it
  pub absorbed_behind : (block d filled : List ℕ) (pending p n : ℕ) → p ≡ min pending 16 → p + n ≡ 16 → n ≤ length d → filled ≡ xor_from block p (take n d)
      → fed (state filled 16 keys) (drop n d) ≡ fed (state block pending keys) d
  absorbed_behind block d filled pending p n hp hn hd e =
      let s = state block pending keys in
      let front : state filled 16 keys ≡ fed s (take n d) =
      ap (λ (k : ℕ). state filled k keys) (sym hn) ∙ absorbed_short block (take n d) filled pending p n hp (sym (length-take-le n d hd)) (omega arith) e in
      ap (λ (x : CmacState). fed x (drop n d)) front ∙ feed_append s (take n d) (drop n d) ∙ ap (fed s) (take-append-drop n d)

  -- whole blocks, and what is kept
  pub absorbed_blocks : (block d x c last : List ℕ) (e : ℕ) → 0 < length d → x ≡ ciph block → e ≡ 16 * ((length d - 1) / 16)
      → c ≡ chain ciph (length (take e d) / 16) x (take e d) → last ≡ xor_from c 0 (drop e d)
      → state last (length (drop e d)) keys ≡ fed (state block 16 keys) d
  unfolding fed clamped
  absorbed_blocks block d x c last e hd hx he hc hl =
      let n = (length d - 1) / 16 in
      let chained : c ≡ chain ciph n (ciph block) d = hc ∙ chain-cut x d e he ∙ ap (λ (y : List ℕ). chain ciph n y d) hx in
      ap₂ (λ (l : List ℕ) (k : ℕ). state l (length (drop k d)) keys) (hl ∙ ap₂ (λ (l : List ℕ) (k : ℕ). xor_from l 0 (drop k d)) chained he) he
      ∙ sym (fold_more keys block d hd ∙ fold-blocks keys n (ciph block) d (with-length keys block) refl)

  -- the tag of a whole message: c is the chain, l the last block, closed from a block of zeros
  pub tag-shape : (m c l z : List ℕ) (e : ℕ) → e ≡ 16 * ((length m - 1) / 16) → z ≡ ciph (replicate 16 0)
      → c ≡ chain ciph (length (take e m) / 16) (replicate 16 0) (take e m)
      → l ≡ closed_block (xor_from (replicate 16 0) 0 (drop e m)) (length (drop e m)) (double z) (double (double z))
      → ciph (xor_bytes c l) ≡ cmac_over ciph m
  unfolding cmac_over before subkey1 subkey2
  tag-shape m c l z e he hz hc hl =
      let zeros : List ℕ = replicate 16 0 in
      let rest = drop e m in
      let short : length rest ≤ 16 = rw length-drop (omega arith) in
      let chained = hc ∙ chain-cut zeros m e he in
      let sized : length c ≡ 16 = ap length chained ∙ chain_length keys ((length m - 1) / 16) zeros m refl in
      let last : l ≡ xor_bytes zeros (last_block ciph rest) =
      hl ∙ ap (λ (y : List ℕ). closed_block (xor_from zeros 0 rest) (length rest) (double y) (double (double y))) hz ∙ close-last keys zeros rest refl short in
      ap ciph
      (ap (xor_bytes c) last
      ∙ sym (xor-bytes-assoc c zeros (last_block ciph rest))
      ∙ ap (λ (y : List ℕ). xor_bytes y (last_block ciph rest)) (sym (xor-from c [] 16 sized))
      ∙ ap₂ (λ (y : List ℕ) (k : ℕ). xor_bytes y (last_block ciph (drop k m))) chained he)

-- an expanded key stands for its key
pub under-key : (key ks m : List ℕ) → ((i : ℕ) → get_or key i 0 < 256) → ks ≡ expand_key key → cmac_over (encrypt_with ks) m ≡ cmac key m
unfolding cmac
under-key key ks m h e = ap (λ (f : List ℕ → List ℕ). cmac_over f m) (same-cipher key ks h e)
