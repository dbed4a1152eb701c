-- 02, No. 7: "Two boxes with the same contents should have the same card image."
--   Determined   an area without damage is determined by what it holds
--   Images       so are card and chip, each and together; and calls leave them without damage
use Rattle.std.specs.Prelude.{◌≡◌, true, List, ℕ, length}
use Rattle.spec.specs.Name.{Name}
use Rattle.spec.specs.Area.{Format, kv_format, rbp_format, sized, intact, lookup}
use Rattle.spec.specs.Calls.{binding_of, areas, store_reset}
use Rattle.spec.specs.Model.{Call, store_step}
use Rattle.spec.specs.Shapes.{AreBytes}
use Rattle.spec.specs.Demand2.{Undamaged}

-- two areas of one length with equal look-ups for every name are equal byte for byte
abbrev pub Determined : Format → List ℕ → List ℕ → Type 0
Determined F area area' = length area ≡ length area' → sized F area ≡ true → intact F area ≡ true → intact F area' ≡ true
    → ((name : Name) → lookup F area name ≡ lookup F area' name) → area ≡ area'

pub record Images : Type 0 where
  -- a record length is one number in two elements: only of bytes are they determined by it
  pub kv : (kv kv' : List ℕ) → AreBytes kv → AreBytes kv' → Determined kv_format kv kv'
  pub rbp : (rbp rbp' : List ℕ) → Determined rbp_format rbp rbp'
  pub both : (kv rbp kv' rbp' : List ℕ) → AreBytes kv → AreBytes kv'
      → length kv ≡ length kv' → length rbp ≡ length rbp' → Undamaged kv rbp → Undamaged kv' rbp'
      → ((name : Name) → binding_of kv rbp name ≡ binding_of kv' rbp' name) → areas kv rbp ≡ areas kv' rbp'
  -- a call leaves an undamaged card and chip undamaged, in order of their names; a reset leaves any so
  pub stays : (kv rbp : List ℕ) (c : Call) → Undamaged kv rbp → let o = store_step (areas kv rbp) c in Undamaged o.after.kv o.after.rbp
  pub reset : (kv rbp : List ℕ) → let o = store_reset kv rbp in o.answer.status ≡ 0 → Undamaged o.after.kv o.after.rbp
