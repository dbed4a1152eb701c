-- `cipher::aes::Cipher::crypt_blocks`: the whole blocks, then the front of the next one's key stream.
use Rattle.std.proofs.Common.{◌+◌, ◌-◌, ◌*◌, ◌/◌, ◌++◌, length, take, drop, refl, ap, ◌∙◌, arith, length-take, rules}
use Rattle.cipher.specs.Aes.{block_of, kept_key, cipher, encrypt_with}
use Rattle.cipher.specs.Columns.{columns_state}
use Rattle.cipher.specs.Cmac.{xor_bytes}
use Rattle.cipher.proofs.Lengths.{block-length}
use Rattle.cipher.proofs.Stream.{block-step, ctr-done, apart-length, apart-done}
use Rattle.cipher.proofs.aes.Cipher.crypt_blocks.Goals as goal

pub slice_bounds-crypt_whole-end-2 : goal.slice_bounds-crypt_whole-end-2
slice_bounds-crypt_whole-end-2 c = simp length-take (omega arith)

pub crypt_whole-requires : goal.crypt_whole-requires
crypt_whole-requires c = simp length-take (omega arith)

pub returns-then-end-n : goal.returns-then-end-n
unfolding columns_state encrypt_with
returns-then-end-n c =
    let a = c.args in
    let ks = a.self.keys.now in
    let l = a.buf.now in
    let i = length l / 16 * 16 in
    let n = length l - i in
    let e = c.crypt_whole.ensures in
    let size = apart-length _ a.iv a.count l _ i (omega arith) e in
    let buf = c.crypt_whole.new.buf ++ drop i l in
    let counter = c.counter_columns-x.ensures in
    let stream = ap block_of (c.encrypt.ensures ∙ ap (cipher (kept_key ks)) counter) in
    let part = c.add_front.ensures ∙ ap (xor_bytes (take n (drop i buf))) c.store.ensures in
    let step =
    block-step (encrypt_with ks) a.iv a.count buf _ _ _ i n (length l / 16) (omega arith) (omega arith) (omega arith) (block-length _) stream part refl in
    ctr-done _ a.iv a.count _ (i + n) (search rules) ∙ step ∙ apart-done _ a.iv a.count l _ i (omega arith) e

pub returns-else-end-n : goal.returns-else-end-n
returns-else-end-n c =
    let a = c.args in
    let l = a.buf.now in
    let i = length l / 16 * 16 in
    let e = c.crypt_whole.ensures in
    let size = apart-length _ a.iv a.count l _ i (omega arith) e in
    ctr-done _ a.iv a.count _ i (omega arith) ∙ apart-done _ a.iv a.count l _ i (omega arith) e
