-- Feeding in parts is feeding the whole. Assumes nothing.
use Rattle.std.proofs.Common.{◌≡◌, ℕ, ◌<◌, ◌≤◌, min, ltb, List, [], ◌∷◌, get_or, set, replicate, sym, refl, ap, ◌∙◌, arith, ltb-true, lt-ltb}
use mathlib.Core.List.{foldl, foldl-append, flatten, zip_with}
use native.Mathlib.Nat.{min-eq_left, min-le_right}
use lib.Bits.{bit_xor}
use Rattle.cipher.specs.declared.cmac.CmacState.{CmacState}
use Rattle.cipher.specs.Aes.{encrypt_with}
use Rattle.cipher.specs.Cmac.{xor_bytes, double, subkey1, subkey2}
use Rattle.cipher.specs.CmacState.{keyed, begun, clamped, xor_at, fed_byte, fed, closed_block, finished}
use Rattle.cipher.specs.Laws.{StateLaw, FeedAppend, KeysKept, FullBlock}
use Rattle.cipher.proofs.Cases.{by-test}
use Rattle.cipher.proofs.Fold.{state, fed_short, fed_full}

-- one byte leaves at most a full block pending, and the key as it was
byte-pending : (s : CmacState) (b : ℕ) → (fed_byte s b).pending ≤ 16
unfolding fed_byte
byte-pending s b = by-test (ltb s.pending 16) (λ e. rw e (omega (arith, ltb-true s.pending 16 e))) (λ e. rw e (omega arith))

byte-keys : (s : CmacState) (b : ℕ) → (fed_byte s b).keys ≡ s.keys
unfolding fed_byte
byte-keys s b = by-test (ltb s.pending 16) (λ e. rw e) (λ e. rw e)

fold-pending : (s : CmacState) (m : List ℕ) → s.pending ≤ 16 → (foldl fed_byte s m).pending ≤ 16
fold-pending s [] h = h
fold-pending s (b ∷ m) h = fold-pending (fed_byte s b) m (byte-pending s b)

fold-keys : (s : CmacState) (m : List ℕ) → (foldl fed_byte s m).keys ≡ s.keys
fold-keys s [] = refl
fold-keys s (b ∷ m) = fold-keys (fed_byte s b) m ∙ byte-keys s b

pub fed-keys : (s : CmacState) (m : List ℕ) → (fed s m).keys ≡ s.keys
unfolding fed clamped
fed-keys s m = fold-keys (clamped s) m

-- a state that claims no more than a block is left alone
clamped-same : (s : CmacState) → s.pending ≤ 16 → clamped s ≡ s
unfolding clamped
clamped-same s h = ap (λ (p : ℕ). state s.block p s.keys) (min-eq_left h)

fed-pending : (s : CmacState) (m : List ℕ) → (fed s m).pending ≤ 16
unfolding fed clamped
fed-pending s m = fold-pending (clamped s) m (min-le_right s.pending 16)

pub feed_append : FeedAppend
unfolding fed
feed_append s a b = ap (λ (t : CmacState). foldl fed_byte t b) (clamped-same (fed s a) (fed-pending s a)) ∙ sym (foldl-append fed_byte (clamped s) a b)

pub feed_parts : (s : CmacState) (parts : List (List ℕ)) → s.pending ≤ 16 → foldl fed s parts ≡ fed s (flatten parts)
unfolding fed flatten
feed_parts s [] h = sym (clamped-same s h)
feed_parts s (p ∷ parts) h = feed_parts (fed s p) parts (fed-pending s p) ∙ feed_append s p (flatten parts)

-- what the words for a state do, for one byte and for none
fed-one : (s : CmacState) (b : ℕ) → s.pending ≤ 16 → fed s (b ∷ []) ≡ fed_byte s b
unfolding fed
fed-one s b h = ap (λ (t : CmacState). fed_byte t b) (clamped-same s h)

fed-next : (s : CmacState) (b : ℕ) → s.pending ≡ 16 → fed s (b ∷ []) ≡ fed (state (encrypt_with s.keys s.block) 0 s.keys) (b ∷ [])
fed-next s b h =
    let next = state (encrypt_with s.keys s.block) 0 s.keys in
    fed-one s b (omega arith) ∙ fed_full s.block s.keys s.pending b (omega arith)
    ∙ sym (fed-one next b (omega arith) ∙ fed_short (encrypt_with s.keys s.block) s.keys 0 b (omega arith))

end-full : (s : CmacState) → s.pending ≡ 16
    → (finished s).block ≡ encrypt_with s.keys (zip_with bit_xor s.block (double (encrypt_with s.keys (replicate 16 0))))
unfolding finished closed_block xor_bytes subkey1 subkey2
end-full s h = let e : min s.pending 16 ≡ 16 = omega arith in rw e

end_short : (s : CmacState) → s.pending < 16
    → let closed = set s.block s.pending (bit_xor (get_or s.block s.pending 0) 0x80) in
    (finished s).block ≡ encrypt_with s.keys (zip_with bit_xor closed (double (double (encrypt_with s.keys (replicate 16 0)))))
unfolding finished closed_block xor_bytes xor_at subkey1 subkey2
end_short s h = let e : min s.pending 16 ≡ s.pending = omega arith in rw (e, lt-ltb s.pending 16 h)

pub state-law : StateLaw
unfolding keyed begun fed finished
state-law = record {
  keyed_is = λ key. refl;
  begun_is = λ s. refl;
  fed_none = clamped-same;
  fed_short = λ s b h. fed-one s b (omega arith) ∙ fed_short s.block s.keys s.pending b h;
  fed_full = fed-next;
  finished_none = λ s. refl;
  finished_full = end-full;
  finished_short = end_short;
}

pub keys_kept : KeysKept
unfolding finished
keys_kept = record { in_fed = fed-keys; in_finished = λ s. refl }

-- more than a block holds counts as a full one
clamped-full : (s : CmacState) → 16 < s.pending → min s.pending 16 ≡ 16
clamped-full s h = omega arith

pub full_block : FullBlock
unfolding fed clamped finished
full_block = record {
  in_fed = λ s m h. ap (λ (p : ℕ). foldl fed_byte (state s.block p s.keys) m) (clamped-full s h);
  in_finished = λ s h.
      let ciph = encrypt_with s.keys in
      ap (λ (p : ℕ). state (ciph (closed_block s.block p (subkey1 ciph) (subkey2 ciph))) 0 s.keys) (clamped-full s h);
}
