-- Every statement of `specs/Laws`, with its proof.
use mathlib.Core.List.{List}
use Prim.Native.Nat.{ℕ}
use Rattle.spec.specs.Name.{Name}
use Rattle.mix.specs.Laws.{RangeLaws, SendLayout, MixLayout, DecodeExact, EncodeExact, SendsExact}
use Rattle.mix.specs.Laws.{MixCallsWell, StoreMixExact, FindExact, FindRefusals, StoreFinds, StoreFindsEncoded}
use Rattle.mix.proofs.RangeLaws.{range-laws}
use Rattle.mix.proofs.MixLayout.{send-layout, mix-layout}
use Rattle.mix.proofs.MixLaws.{decode-exact, encode-exact}
use Rattle.mix.proofs.ArrayLaws.{sends-exact}
use Rattle.mix.proofs.FindLaws.{find-exact, find-refusals}
use Rattle.mix.proofs.CallLaws.{mix-calls-well, store-mix-exact, store-finds, store-finds-encoded}

pub ranges : RangeLaws
ranges = range-laws

pub send-bytes : SendLayout
send-bytes = send-layout

pub mix-bytes : MixLayout
mix-bytes = mix-layout

pub decoding : DecodeExact
decoding = decode-exact

pub encoding : EncodeExact
encoding = encode-exact

pub arrays : SendsExact
arrays = sends-exact

pub demand1 : (kv rbp key : List ℕ) → MixCallsWell kv rbp key
demand1 = mix-calls-well

pub keeping : (kv rbp key : List ℕ) (name : Name) (flags : ℕ) (iv : List ℕ) → StoreMixExact kv rbp key name flags iv
keeping = store-mix-exact

pub reconnecting : (kv rbp key : List ℕ) → FindExact kv rbp key
reconnecting = find-exact

pub refusals : (kv rbp key : List ℕ) (session : ℕ) → FindRefusals kv rbp key session
refusals = find-refusals

pub kept-is-found : StoreFinds
kept-is-found = store-finds

pub kept-bytes-are-found : StoreFindsEncoded
kept-bytes-are-found = store-finds-encoded
