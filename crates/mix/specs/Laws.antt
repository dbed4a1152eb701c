-- What holds of mixes and of the calls on them, as statements. They are proved in `proofs/`.
--   RangeLaws                                          the ranges, of numbers and of bits
--   SendLayout, MixLayout                              the bytes of a send and of a mix
--   MixFits, InRange, WellFormed, DecodeExact, EncodeExact   which mixes can be kept, which bytes are one's, and that nothing is lost
--   MixCallsWell                                       demand 1
--   StoreMixExact                                      keeping
--   MixAt, Accepted, Findable, FindExact, FindRefusals reconnecting
--   StoreFinds, StoreFindsEncoded                      what was kept is found whole
--   ArraysInRange, SendsExact                          a mix as three arrays
use Rattle.std.specs.Prelude.{◌≡◌, ◌≢◌, ◌↔◌, ◌⊎◌, Bool, true, false, cond, ◌&&◌, ℕ, ◌+◌, ◌-◌, ◌*◌, ◌%◌, ◌^◌, ◌≤◌, ◌<◌, eqb, ℤ, pos, negsuc, Float, length, get_or, take, drop, replicate}
use mathlib.Core.List.{List, [], ◌∷◌, ◌++◌, map, flatten, zip_with}
use Rattle.std.proofs.Math.Option.{some}
use Rattle.std.specs.Float.{nan, inf, fin, binary32}
use Rattle.std.specs.Float.Ieee.{up, down, fits, to_bits, of_bits}
use Rattle.buffers.specs.Bytes.{every, le_bytes, u32_at}
use Rattle.spec.specs.Status.{is_listed, Answer}
use Rattle.spec.specs.Name.{Name}
use Rattle.spec.specs.Area.{kv_format, rbp_format, slot_holder, slot_count, slots, sized, intact}
use Rattle.spec.specs.Interleaving.{Outcome}
use Rattle.spec.specs.Calls.{Areas, areas, store_set, store_get}
use Rattle.spec.specs.Demand1.{Well}
use Rattle.spec.specs.Demand2.{Undamaged, Readable, opened, Stores}
use Rattle.spec.specs.Shapes.{AreBytes}
use Rattle.mix.specs.Range.{zero, level_in_range, pan_in_range}
use Rattle.mix.specs.Send.{send_in_range, send_bytes}
use Rattle.mix.specs.Mix.{MixAnswer, mix_in_range, mix_bytes, mix_valid, decode_mix, encode_mix}
use Rattle.mix.specs.Calls.{store_mix, store_encoded_mix, find_encoded_mix, find_mix_by_session}
use Rattle.mix.specs.Arrays.{send_from, mix_from, encode_sends, SendArrays, DecodedSends, decode_sends}
use Rattle.mix.specs.declared.monitor.AuxSend.{AuxSend}
use Rattle.mix.specs.declared.monitor.AuxSend.TheVariants.{Muted, Level, LevelPan}
use Rattle.mix.specs.declared.monitor.MonitorMix.{MonitorMix}

-- ---- the ranges

-- bits of a level: those of +0 up to 4.0, and of -0; of a pan: those of 0 up to 1.0, with either sign
abbrev pub LevelBits : ℕ → Type 0
LevelBits n = (n ≤ 0x40800000) ⊎ (n ≡ 0x80000000)

abbrev pub PanBits : ℕ → Type 0
PanBits n = n % 0x80000000 ≤ 0x3f800000

-- a finite float is the number m * 2 ^ e, negative where its sign says so; 2 ^ e is the fraction up e / down e
pub record RangeLaws : Type 0 where
  -- 0 ≤ x ≤ 4, and -0 is 0; -1 ≤ x ≤ 1
  pub level_number : (s : Bool) (m : ℕ) (e : ℤ) → (level_in_range (fin s m e) ≡ true) ↔ ((m ≡ 0) ⊎ ((s ≡ false) × (m * up e ≤ 4 * down e)))
  pub pan_number : (s : Bool) (m : ℕ) (e : ℤ) → (pan_in_range (fin s m e) ≡ true) ↔ (m * up e ≤ down e)
  -- "no NaN", and no infinity
  pub level_nan : level_in_range nan ≡ false
  pub pan_nan : pan_in_range nan ≡ false
  pub level_inf : (s : Bool) → level_in_range (inf s) ≡ false
  pub pan_inf : (s : Bool) → pan_in_range (inf s) ≡ false
  pub level_bits : (n : ℕ) → n < 2 ^ 32 → (level_in_range (of_bits binary32 n) ≡ true) ↔ LevelBits n
  pub pan_bits : (n : ℕ) → n < 2 ^ 32 → (pan_in_range (of_bits binary32 n) ≡ true) ↔ PanBits n
  -- "Bits survive storing exactly, minus zero too."
  pub level_survives : (n : ℕ) → n < 2 ^ 32 → LevelBits n → to_bits binary32 (of_bits binary32 n) ≡ n
  pub pan_survives : (n : ℕ) → n < 2 ^ 32 → PanBits n → to_bits binary32 (of_bits binary32 n) ≡ n
  pub minus_zero : of_bits binary32 0x80000000 ≡ fin true 0 (pos 0)

-- ---- the bytes of a send and of a mix

pub record SendLayout : Type 0 where
  pub muted : send_bytes Muted ≡ 0 ∷ 0 ∷ 0 ∷ 0 ∷ 0 ∷ 0 ∷ 0 ∷ 0 ∷ 0 ∷ []
  pub level : (l : Float) → send_bytes (Level l) ≡ 1 ∷ (le_bytes 4 (to_bits binary32 l) ++ 0 ∷ 0 ∷ 0 ∷ 0 ∷ [])
  pub level_pan : (l p : Float) → send_bytes (LevelPan l p) ≡ 2 ∷ (le_bytes 4 (to_bits binary32 l) ++ le_bytes 4 (to_bits binary32 p))
  -- level 0.75, pan minus zero
  pub one : send_bytes (LevelPan (fin false 3 (negsuc 1)) (fin true 0 (pos 0))) ≡ 2 ∷ 0x00 ∷ 0x00 ∷ 0x40 ∷ 0x3f ∷ 0x00 ∷ 0x00 ∷ 0x00 ∷ 0x80 ∷ []

-- the sends of a mix, as a list
abbrev pub all_sends : List AuxSend → List AuxSend
all_sends sends = sends ++ replicate (16 - length sends) Muted

pub record MixLayout : Type 0 where
  -- sends behind the count are not written
  pub bytes : (session : ℕ) (sends : List AuxSend) (rest : List AuxSend)
      → mix_bytes (record { session_id = session; count = length sends; sends = sends ++ rest })
      ≡ le_bytes 8 session ++ (length sends ∷ flatten (map send_bytes sends))
  pub one : mix_bytes (record {
    session_id = 0x0807060504030201;
    count = 2;
    sends = all_sends (Muted ∷ Level (fin false 1 (pos 2)) ∷ LevelPan (fin false 1 (pos 0)) (fin false 1 (pos 0)) ∷ []);
  })
      ≡ 1 ∷ 2 ∷ 3 ∷ 4 ∷ 5 ∷ 6 ∷ 7 ∷ 8 ∷ 2 ∷ 0 ∷ 0 ∷ 0 ∷ 0 ∷ 0 ∷ 0 ∷ 0 ∷ 0 ∷ 0 ∷ 1 ∷ 0x00 ∷ 0x00 ∷ 0x80 ∷ 0x40 ∷ 0 ∷ 0 ∷ 0 ∷ 0 ∷ []

-- ---- a mix that can be kept, and bytes that are one's

abbrev pub FloatsFit : AuxSend → Bool
FloatsFit Muted = true
FloatsFit (Level l) = fits binary32 l
FloatsFit (LevelPan l p) = fits binary32 l && fits binary32 p

-- what every value of the struct has: numbers of their widths, sixteen sends, floats of 32 bits
pub record MixFits (m : MonitorMix) : Type 0 where
  pub session : m.session_id < 2 ^ 64
  pub count : m.count < 256
  pub sends : length m.sends ≡ 16
  pub floats : every FloatsFit m.sends ≡ true

abbrev pub SendInRange : AuxSend → Type 0
SendInRange Muted = Unit {0}
SendInRange (Level l) = level_in_range l ≡ true
SendInRange (LevelPan l p) = (level_in_range l ≡ true) × (pan_in_range p ≡ true)

-- at most 16 sends, and each of these in range; the others are not looked at
pub record InRange (m : MonitorMix) : Type 0 where
  pub count : m.count ≤ 16
  pub sends : (i : ℕ) → i < m.count → SendInRange (get_or m.sends i Muted)

abbrev pub Zeros : ℕ → ℕ → List ℕ → Type 0
Zeros from k b = take k (drop from b) ≡ replicate k 0

-- a send of nine bytes: "tag 0, 1 or 2, then level, then pan, unused bytes zero"
pub data SendFormed (b : List ℕ) : Type 0 where
  is_muted : get_or b 0 0 ≡ 0 → Zeros 1 8 b → SendFormed b
  is_level : get_or b 0 0 ≡ 1 → LevelBits (u32_at b 1) → Zeros 5 4 b → SendFormed b
  is_level_pan : get_or b 0 0 ≡ 2 → LevelBits (u32_at b 1) → PanBits (u32_at b 5) → SendFormed b

-- 02's rules for the bytes of a mix, one by one
pub record WellFormed (b : List ℕ) : Type 0 where
  pub header : 9 ≤ length b
  pub count_small : get_or b 8 0 ≤ 16
  pub whole : length b ≡ 9 + 9 * get_or b 8 0
  pub sends : (i : ℕ) → i < get_or b 8 0 → SendFormed (take 9 (drop (9 + 9 * i) b))

-- the bytes of a mix in range
pub record KeptMix (b : List ℕ) : Type 0 where
  pub mix : MonitorMix
  pub has_widths : MixFits mix
  pub in_range : InRange mix
  pub bytes : b ≡ mix_bytes mix

abbrev pub no_mix : MonitorMix
no_mix = record { session_id = 0; count = 0; sends = replicate 16 Muted }

-- sends beyond the count aside
abbrev pub cut : MonitorMix → MonitorMix
cut m = record { session_id = m.session_id; count = m.count; sends = take m.count m.sends ++ replicate (16 - m.count) Muted }

pub record DecodeExact : Type 0 where
  -- bytes are accepted exactly where they are those of a mix in range, and that is where they keep the rules
  pub condition : (b : List ℕ) → AreBytes b → ((decode_mix b).status ≡ 0) ↔ KeptMix b
  pub rules : (b : List ℕ) → AreBytes b → ((decode_mix b).status ≡ 0) ↔ WellFormed b
  -- what was encoded is given back, and what is given back encodes to the same bytes
  pub gives : (m : MonitorMix) → MixFits m → InRange m → decode_mix (mix_bytes m) ≡ record { status = 0; mix = cut m }
  pub back : (b : List ℕ) → AreBytes b → (decode_mix b).status ≡ 0 → mix_bytes (decode_mix b).mix ≡ b
  -- the test of bytes is that they are accepted
  pub valid : (b : List ℕ) → (mix_valid b ≡ true) ↔ ((decode_mix b).status ≡ 0)
  -- 20 is the only refusal, and has session number 0 and no sends
  pub refusal : (b : List ℕ) → (decode_mix b).status ≢ 0 → decode_mix b ≡ record { status = 20; mix = no_mix }

-- bytes at the front of a buffer, their length as the count, the rest as before; and a refusal
abbrev pub holding : List ℕ → List ℕ → Answer
holding buf b = record { status = 0; numbers = length b ∷ []; output = b ++ drop (length b) buf }

abbrev pub refusing : ℕ → List ℕ → Answer
refusing status buf = record { status = status; numbers = 0 ∷ []; output = buf }

pub record EncodeExact : Type 0 where
  -- the tests of a mix and of a send say what they are named for
  pub in_range : (m : MonitorMix) → (mix_in_range m ≡ true) ↔ InRange m
  pub send_is_in_range : (x : AuxSend) → (send_in_range x ≡ true) ↔ SendInRange x
  pub short : (m : MonitorMix) (buf : List ℕ) → length buf < 153 → encode_mix m buf ≡ refusing 1 buf
  pub out_of_range : (m : MonitorMix) (buf : List ℕ) → 153 ≤ length buf → (¬ InRange m) → encode_mix m buf ≡ refusing 20 buf
  pub gives : (m : MonitorMix) (buf : List ℕ) → 153 ≤ length buf → InRange m → encode_mix m buf ≡ holding buf (mix_bytes m)
  -- what is written fits
  pub fits_in : (m : MonitorMix) → length m.sends ≡ 16 → InRange m → (length (mix_bytes m) ≡ 9 + 9 * m.count) × (length (mix_bytes m) ≤ 153)

-- ---- demand 1

-- card and chip are as they were
abbrev pub unchanged : List ℕ → List ℕ → Answer → Outcome Areas Answer
unchanged kv rbp a = record { answer = a; after = areas kv rbp }

-- a status of the table, and a refusal without a mix
pub record MixWell (a : MixAnswer) : Type 0 where
  pub listed : is_listed a.status ≡ true
  pub empty : a.status ≢ 0 → a.mix ≡ no_mix

pub record MixCallsWell (kv rbp key : List ℕ) : Type 0 where
  pub of_store : (name : Name) (flags : ℕ) (iv : List ℕ) (m : MonitorMix) → Well 0 [] (areas kv rbp) (store_mix kv rbp key name flags iv m)
  pub of_store_encoded : (name : Name) (flags : ℕ) (iv b : List ℕ) → Well 0 [] (areas kv rbp) (store_encoded_mix kv rbp key name flags iv b)
  pub of_find : (session : ℕ) → MixWell (find_mix_by_session kv rbp key session)
  pub of_find_encoded : (session : ℕ) (buf : List ℕ) → Well 1 buf (areas kv rbp) (unchanged kv rbp (find_encoded_mix kv rbp key session buf))
  pub of_decode : (b : List ℕ) → MixWell (decode_mix b)
  pub of_encode : (m : MonitorMix) (buf : List ℕ) → Well 1 buf (areas kv rbp) (unchanged kv rbp (encode_mix m buf))
  pub of_encode_sends : (session : ℕ) (tags : List ℕ) (levels pans : List Float) (buf : List ℕ)
      → Well 1 buf (areas kv rbp) (unchanged kv rbp (encode_sends session tags levels pans buf))
  pub of_decode_sends : (b : List ℕ) (a : SendArrays) → let d = decode_sends b a in
      (is_listed d.status ≡ true) × (d.status ≢ 0 → d ≡ record { status = d.status; session = 0; count = 0; arrays = a })

-- ---- keeping

-- "mix/" in front
abbrev pub MixName : Name → Type 0
MixName name = take 4 name ≡ 0x6d ∷ 0x69 ∷ 0x78 ∷ 0x2f ∷ []

abbrev pub refused_with : List ℕ → List ℕ → ℕ → Outcome Areas Answer
refused_with kv rbp status = record { answer = record { status = status; numbers = []; output = [] }; after = areas kv rbp }

pub record StoreMixExact (kv rbp key : List ℕ) (name : Name) (flags : ℕ) (iv : List ℕ) : Type 0 where
  -- "Keeping gives 20, then 3 for a name without "mix/" in front, then as set."
  pub out_of_range : (m : MonitorMix) → (¬ InRange m) → store_mix kv rbp key name flags iv m ≡ refused_with kv rbp 20
  pub other_name : (m : MonitorMix) → InRange m → (¬ MixName name) → store_mix kv rbp key name flags iv m ≡ refused_with kv rbp 3
  pub is_set : (m : MonitorMix) → InRange m → MixName name → store_mix kv rbp key name flags iv m ≡ store_set kv rbp key name flags iv (mix_bytes m)
  -- of bytes: 20 for those that are no mix's, and else the same
  pub bad_bytes : (b : List ℕ) → (decode_mix b).status ≢ 0 → store_encoded_mix kv rbp key name flags iv b ≡ refused_with kv rbp 20
  pub encoded : (b : List ℕ) → AreBytes b → (decode_mix b).status ≡ 0
      → store_encoded_mix kv rbp key name flags iv b ≡ store_mix kv rbp key name flags iv (decode_mix b).mix
  -- a done one stores those bytes as a set does
  pub stores : (m : MonitorMix) → (store_mix kv rbp key name flags iv m).answer.status ≡ 0
      → Stores kv rbp key name flags iv (mix_bytes m) (store_mix kv rbp key name flags iv m)

-- ---- reconnecting

-- slot i is used by a name that begins with "mix/"
pub record MixAt (kv : List ℕ) (i : ℕ) (name : Name) : Type 0 where
  pub in_range : i < slot_count kv_format kv
  pub held : slot_holder kv_format (get_or (slots kv_format kv) i []) ≡ some name
  pub prefixed : MixName name

-- "accepted": a get gives its bytes, and they are a mix's
pub record Accepted (kv rbp key name b : List ℕ) : Type 0 where
  pub readable : Readable kv rbp key name 0
  pub plaintext : opened key name readable.r ≡ b
  pub is_mix : (decode_mix b).status ≡ 0

abbrev pub session_in : List ℕ → ℕ
session_in b = (decode_mix b).mix.session_id

module _ (kv rbp key : List ℕ) where
  -- every record of a mix below slot k is accepted
  abbrev pub AcceptedBelow : ℕ → Type 0
  AcceptedBelow k = (i : ℕ) (name : Name) → i < k → MixAt kv i name → (b : List ℕ) × Accepted kv rbp key name b

  -- an accepted record of a mix that holds the session
  pub record Holds (session i : ℕ) : Type 0 where
    pub name : Name
    pub at : MixAt kv i name
    pub bytes : List ℕ
    pub accepted : Accepted kv rbp key name bytes
    pub session_is : session_in bytes ≡ session

  -- what a find's 0 asks for: all are accepted, and one alone holds the session
  pub record Findable (session : ℕ) : Type 0 where
    pub undamaged : Undamaged kv rbp
    pub key_is_sized : length key ≡ 16
    pub all_accepted : AcceptedBelow (slot_count kv_format kv)
    pub i : ℕ
    pub holds : Holds session i
    pub alone : (j : ℕ) → Holds session j → j ≡ i

  pub record FindExact : Type 0 where
    pub condition : (session : ℕ) → ((find_mix_by_session kv rbp key session).status ≡ 0) ↔ Findable session
    -- the mix of that record, of that session
    pub gives : (session : ℕ) (h : Findable session) → find_mix_by_session kv rbp key session ≡ decode_mix h.holds.bytes
    pub session : (session : ℕ) → (find_mix_by_session kv rbp key session).status ≡ 0 → (find_mix_by_session kv rbp key session).mix.session_id ≡ session
    -- the same into a buffer: the record's bytes
    pub short : (session : ℕ) (buf : List ℕ) → length buf < 153 → find_encoded_mix kv rbp key session buf ≡ refusing 1 buf
    pub encoded : (session : ℕ) (buf : List ℕ) (h : Findable session) → 153 ≤ length buf → find_encoded_mix kv rbp key session buf ≡ holding buf h.holds.bytes
    pub same_number : (session : ℕ) (buf : List ℕ) → 153 ≤ length buf
        → (find_encoded_mix kv rbp key session buf).status ≡ (find_mix_by_session kv rbp key session).status

  -- which number it is where it is not 0: "1, 2"; the lowest slot that is not accepted; "21 if two or more do", "6 if no accepted record does"
  pub record FindRefusals (session : ℕ) : Type 0 where
    pub kv_length : sized kv_format kv ≡ false → (find_mix_by_session kv rbp key session).status ≡ 1
    pub rbp_length : sized rbp_format rbp ≡ false → (find_mix_by_session kv rbp key session).status ≡ 1
    pub key_length : length key ≢ 16 → (find_mix_by_session kv rbp key session).status ≡ 1
    pub kv_damage : sized kv_format kv ≡ true → sized rbp_format rbp ≡ true → length key ≡ 16 → intact kv_format kv ≡ false
        → (find_mix_by_session kv rbp key session).status ≡ 2
    pub rbp_damage : sized kv_format kv ≡ true → sized rbp_format rbp ≡ true → length key ≡ 16 → intact rbp_format rbp ≡ false
        → (find_mix_by_session kv rbp key session).status ≡ 2
    pub get_refuses : Undamaged kv rbp → length key ≡ 16 → (i : ℕ) (name : Name) → AcceptedBelow i → MixAt kv i name
        → let status = (store_get kv rbp key name 0 (replicate 480 0)).answer.status in status ≢ 0 → (find_mix_by_session kv rbp key session).status ≡ status
    pub bad_bytes : Undamaged kv rbp → length key ≡ 16 → (i : ℕ) (name : Name) → AcceptedBelow i → MixAt kv i name
        → (h : Readable kv rbp key name 0) → (decode_mix (opened key name h.r)).status ≢ 0 → (find_mix_by_session kv rbp key session).status ≡ 20
    pub two : Undamaged kv rbp → length key ≡ 16 → AcceptedBelow (slot_count kv_format kv) → (i j : ℕ) → Holds session i → Holds session j → i ≢ j
        → (find_mix_by_session kv rbp key session).status ≡ 21
    pub none : Undamaged kv rbp → length key ≡ 16 → AcceptedBelow (slot_count kv_format kv) → ((i : ℕ) → ¬ Holds session i)
        → (find_mix_by_session kv rbp key session).status ≡ 6

-- a mix that was kept is found whole with the same device key, where no other record of a mix is refused or holds that session
abbrev pub StoreFinds : Type 0
StoreFinds = (kv rbp key : List ℕ) (name : Name) (flags : ℕ) (iv : List ℕ) (m : MonitorMix)
    → let o = store_mix kv rbp key name flags iv m in
    o.answer.status ≡ 0 → MixFits m
    → ((i : ℕ) (other : Name) → MixAt o.after.kv i other → other ≢ name
    → (b : List ℕ) × Accepted o.after.kv o.after.rbp key other b × (session_in b ≢ m.session_id))
    → find_mix_by_session o.after.kv o.after.rbp key m.session_id ≡ record { status = 0; mix = cut m }

-- the same of bytes
abbrev pub StoreFindsEncoded : Type 0
StoreFindsEncoded = (kv rbp key : List ℕ) (name : Name) (flags : ℕ) (iv b buf : List ℕ)
    → let o = store_encoded_mix kv rbp key name flags iv b in
    o.answer.status ≡ 0 → AreBytes b → 153 ≤ length buf
    → ((i : ℕ) (other : Name) → MixAt o.after.kv i other → other ≢ name
    → (c : List ℕ) × Accepted o.after.kv o.after.rbp key other c × (session_in c ≢ session_in b))
    → find_encoded_mix o.after.kv o.after.rbp key (session_in b) buf ≡ holding buf b

-- ---- a mix as three arrays

-- what a tag has of a level and of a pan: +0 stands for what it does not have
abbrev pub kept_level : ℕ → Float → Float
kept_level tag level = cond (eqb tag 0) (fin false 0 (pos 0)) level

abbrev pub kept_pan : ℕ → Float → Float
kept_pan tag pan = cond (eqb tag 2) pan (fin false 0 (pos 0))

-- arrays of one length, of at most sixteen sends; each tag is 0, 1 or 2, and the numbers that it has lie in range
pub record ArraysInRange (tags : List ℕ) (levels pans : List Float) : Type 0 where
  pub same_levels : length levels ≡ length tags
  pub same_pans : length pans ≡ length tags
  pub few : length tags ≤ 16
  pub known : (i : ℕ) → i < length tags → get_or tags i 0 ≤ 2
  pub level : (i : ℕ) → i < length tags → get_or tags i 0 ≢ 0 → level_in_range (get_or levels i zero) ≡ true
  pub pan : (i : ℕ) → i < length tags → get_or tags i 0 ≡ 2 → pan_in_range (get_or pans i zero) ≡ true

-- what every u64 and every array of f32 has
pub record SendsFit (session : ℕ) (levels pans : List Float) : Type 0 where
  pub session_fits : session < 2 ^ 64
  pub levels_fit : every (fits binary32) levels ≡ true
  pub pans_fit : every (fits binary32) pans ≡ true

pub record ArraysSized (a : SendArrays) : Type 0 where
  pub tags : 16 ≤ length a.tags
  pub levels : 16 ≤ length a.levels
  pub pans : 16 ≤ length a.pans

-- the tags as they were, with the levels and the pans that they have; behind them what stood there
abbrev pub given : ℕ → List ℕ → List Float → List Float → SendArrays → DecodedSends
given session tags levels pans a =
    let n = length tags in
    record {
      status = 0;
      session = session;
      count = n;
      arrays = record {
        tags = tags ++ drop n a.tags;
        levels = zip_with kept_level tags levels ++ drop n a.levels;
        pans = zip_with kept_pan tags pans ++ drop n a.pans;
      };
    }

pub record SendsExact : Type 0 where
  -- the send that a tag, a level and a pan are, and the mix of arrays
  pub muted : (l p : Float) → send_from 0 l p ≡ Muted
  pub level : (l p : Float) → send_from 1 l p ≡ Level l
  pub level_pan : (l p : Float) → send_from 2 l p ≡ LevelPan l p
  pub header : (session : ℕ) (tags : List ℕ) (levels pans : List Float)
      → let m = mix_from session tags levels pans in (m.session_id ≡ session) × (m.count ≡ length tags)
  pub sends : (session : ℕ) (tags : List ℕ) (levels pans : List Float) (i : ℕ) (d : AuxSend)
      → length levels ≡ length tags → length pans ≡ length tags → i < length tags
      → get_or (mix_from session tags levels pans).sends i d ≡ send_from (get_or tags i 0) (get_or levels i zero) (get_or pans i zero)
  -- arrays are encoded exactly where they lie in range, as the mix that they are
  pub condition : (session : ℕ) (tags : List ℕ) (levels pans : List Float) (buf : List ℕ) → 153 ≤ length buf
      → ((encode_sends session tags levels pans buf).status ≡ 0) ↔ ArraysInRange tags levels pans
  pub gives : (session : ℕ) (tags : List ℕ) (levels pans : List Float) (buf : List ℕ) → 153 ≤ length buf → ArraysInRange tags levels pans
      → encode_sends session tags levels pans buf ≡ holding buf (mix_bytes (mix_from session tags levels pans))
  -- 1 for a length, then 20
  pub short : (session : ℕ) (tags : List ℕ) (levels pans : List Float) (buf : List ℕ) → length buf < 153
      → encode_sends session tags levels pans buf ≡ refusing 1 buf
  pub other_levels : (session : ℕ) (tags : List ℕ) (levels pans : List Float) (buf : List ℕ) → length levels ≢ length tags
      → encode_sends session tags levels pans buf ≡ refusing 1 buf
  pub other_pans : (session : ℕ) (tags : List ℕ) (levels pans : List Float) (buf : List ℕ) → length pans ≢ length tags
      → encode_sends session tags levels pans buf ≡ refusing 1 buf
  pub out_of_range : (session : ℕ) (tags : List ℕ) (levels pans : List Float) (buf : List ℕ) → 153 ≤ length buf
      → length levels ≡ length tags → length pans ≡ length tags → (¬ ArraysInRange tags levels pans)
      → encode_sends session tags levels pans buf ≡ refusing 20 buf
  -- and the bytes decode to them
  pub back : (session : ℕ) (tags : List ℕ) (levels pans : List Float) (a : SendArrays)
      → SendsFit session levels pans → ArraysInRange tags levels pans → ArraysSized a
      → decode_sends (mix_bytes (mix_from session tags levels pans)) a ≡ given session tags levels pans a
  -- 1 for a length, then 20
  pub unsized : (b : List ℕ) (a : SendArrays) → (¬ ArraysSized a) → decode_sends b a ≡ record { status = 1; session = 0; count = 0; arrays = a }
  pub is_no_mix : (b : List ℕ) (a : SendArrays) → ArraysSized a → (decode_mix b).status ≢ 0
      → decode_sends b a ≡ record { status = 20; session = 0; count = 0; arrays = a }
