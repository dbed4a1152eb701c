-- Every statement of `specs/Laws`, with its proof. This is all of `proofs` that other crates use.
use Rattle.cipher.specs.Laws.{FieldLaw, InverseLaw, SboxLaw, ExpandedKey, DoubleLaw, CmacLaw}
use Rattle.cipher.specs.Laws.{StateLaw, FeedAppend, TagOfParts, OneShot, KeysKept, FullBlock}
use Rattle.cipher.specs.Laws.{BigEndian, CtrLaw, CtrTwice, CtrFront, DerivationLaw, LengthLaw}
use Rattle.cipher.proofs.Product.{field-law}
use Rattle.cipher.proofs.Inverse.{inverse-law}
use Rattle.cipher.proofs.Rule.{sbox-law}
use Rattle.cipher.proofs.Expanded.{encrypt_expanded}
use Rattle.cipher.proofs.Chain.{double-law, cmac-law}
use Rattle.cipher.proofs.Feeds.{state-law, feed_append, keys_kept, full_block}
use Rattle.cipher.proofs.Tag.{tag-of-parts, one-shot-law}
use Rattle.cipher.proofs.CtrLaws.{big_endian, ctr-law, ctr-twice, ctr-front}
use Rattle.cipher.proofs.Derivation.{derivation-law}
use Rattle.cipher.proofs.Lengths.{length-law}

pub field : FieldLaw
field = field-law

pub inverse : InverseLaw
inverse = inverse-law

pub substitution : SboxLaw
substitution = sbox-law

pub expanded : ExpandedKey
expanded = encrypt_expanded

pub doubling : DoubleLaw
doubling = double-law

pub chaining : CmacLaw
chaining = cmac-law

pub state : StateLaw
state = state-law

pub division : FeedAppend
division = feed_append

pub tag : TagOfParts
tag = tag-of-parts

pub one-shot : OneShot
one-shot = one-shot-law

pub keys : KeysKept
keys = keys_kept

pub pending : FullBlock
pending = full_block

pub count : BigEndian
count = big_endian

pub stream : CtrLaw
stream = ctr-law

pub twice : CtrTwice
twice = ctr-twice

pub front : CtrFront
front = ctr-front

pub derivation : DerivationLaw
derivation = derivation-law

pub lengths : LengthLaw
lengths = length-law
