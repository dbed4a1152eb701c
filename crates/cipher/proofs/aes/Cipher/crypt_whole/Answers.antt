-- `cipher::aes::Cipher::crypt_whole`. The invariant: the first i blocks are done and those from i on as lent, `counter` is the count of block i, and `shared` what
-- its counter block shares.
use Rattle.std.proofs.Common.{◌≡◌, ℕ, ◌+◌, ◌-◌, ◌*◌, ◌++◌, take, drop, refl, ap, ◌∙◌, arith, w8, rules}
use borrow.Kind.Array.{e_int, good_length}
use Rattle.cipher.specs.Aes.{State, state_of, block_of, kept_key, cipher, encrypt_with}
use Rattle.cipher.specs.Columns.{columns_state}
use Rattle.cipher.specs.FirstRound.{shared_round}
use Rattle.cipher.specs.Cmac.{xor_bytes}
use Rattle.cipher.specs.Ctr.{counter_block}
use Rattle.cipher.proofs.Lengths.{block-length}
use Rattle.cipher.proofs.Stream.{counter_words, next-count, block-step, ctr-done}
use Rattle.cipher.proofs.aes.Cipher.crypt_whole.Goals as goal

pub loop-i-init : goal.loop-i-init
loop-i-init c = (refl, search rules, c.shared_round-shared.ensures ∙ ap (shared_round _) c.counter_columns.ensures, refl)

pub loop-i-preserved : goal.loop-i-preserved
unfolding encrypt_with
loop-i-preserved c =
    let l = c.loop-i in
    let a = c.args in
    let ks = a.self.keys.now in
    let i = 16 * l.i in
    let d = drop i l.buf in
    let sized = good_length (e_int w8) 8 a.iv _ c.well_formed.1.0 in
    let low = ap (λ (s : State). s.c3) (counter_words a.iv l.counter sized) in
    let stream = ap block_of (c.encrypt_shared-s.ensures (state_of (counter_block a.iv l.counter)) low l.invariant.2)
    ∙ ap (λ (k : ℕ). block_of (cipher (kept_key ks) (state_of (counter_block a.iv k)))) l.invariant.1 in
    let back : i + 16 - i ≡ 16 = omega arith in
    let part = c.add_block.ensures ∙ ap (λ (k : ℕ). xor_bytes (take k d) (block_of (columns_state c.encrypt_shared-s.result))) back in
    let new = ap (λ (k : ℕ). take i l.buf ++ (c.add_block.new.part ++ drop k d)) back in
    let step =
    block-step (encrypt_with ks) a.iv a.count l.buf _ _ _ i 16 l.i refl (omega arith) (omega arith) (block-length _) stream part new in
    let on : 16 * (l.i + 1) ≡ i + 16 = omega arith in (
      search rules,
      next-count _ a.count l.i l.invariant.1,
      c.next_shared-shared.ensures,
      rw on (step ∙ l.invariant.3),
    )

pub returns : goal.returns
returns c =
    let l = c.loop-i in
    let a = c.args in
    ctr-done _ a.iv a.count l.buf (16 * l.i) (omega arith) ∙ l.invariant.3
