-- The derivation as 01 has it. Assumes nothing.
use Rattle.std.proofs.Common.{refl}
use Rattle.cipher.specs.Kdf.{salt, labelled, kdf, derived_key}
use Rattle.cipher.specs.Laws.{DerivationLaw}

pub derivation-law : DerivationLaw
unfolding salt labelled kdf derived_key
derivation-law = record {
  enc = refl;
  auth = refl;
  cut = λ prefix name. refl;
  uncut = λ key label. refl;
  derived = λ key prefix name. refl;
}
