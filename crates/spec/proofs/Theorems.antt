-- Every statement of `specs/`, with its proof.
use mathlib.Core.List.{List}
use Prim.Native.Nat.{ℕ}
use Rattle.spec.specs.Demand1.{Demand1}
use Rattle.spec.specs.Demand2.{Demand2}
use Rattle.spec.specs.IncrementalExact.{Incremental}
use Rattle.spec.specs.declared.incremental.IncSetHandle.{IncSetHandle}
use Rattle.spec.specs.Demand3.{ClientIsolation, StepIsCall, ModelExact, Instance}
use Rattle.spec.specs.Shapes.{Shapes}
use Rattle.spec.specs.Images.{Images}
use Rattle.spec.specs.TagComparison.{TagComparison}
use Rattle.spec.specs.Downgrade.{Downgrade}
use Rattle.spec.specs.Edges.{Edges, Numerals}
use Rattle.spec.specs.Vocabulary.{Vocabulary}
use Rattle.spec.proofs.Demand1.{demand1-holds}
use Rattle.spec.proofs.Get.{get_exact, info_exact}
use Rattle.spec.proofs.Set.{set_exact, round_trip}
use Rattle.spec.proofs.Remove.{remove_exact}
use Rattle.spec.proofs.Reset.{reset_exact}
use Rattle.spec.proofs.Iterator.{iterator_exact, walk_in_order}
use Rattle.spec.proofs.Refusals.{refusals}
use Rattle.spec.proofs.IncrementalSet.{incremental}
use Rattle.spec.proofs.Isolation.{client_isolation}
use Rattle.spec.proofs.ModelExact.{step-is-call, model-exact}
use Rattle.spec.proofs.Instance.{instance}
use Rattle.spec.proofs.Shapes.{shapes-hold}
use Rattle.spec.proofs.Images.{images}
use Rattle.spec.proofs.TagComparison.{tag_comparison}
use Rattle.spec.proofs.Downgrade.{downgrade}
use Rattle.spec.proofs.Edges.{edges-hold, numerals-hold}
use Rattle.spec.proofs.Vocabulary.{vocabulary-holds}

pub demand1 : Demand1
demand1 = demand1-holds

pub demand2 : Demand2
demand2 = record {
  get_exact = get_exact;
  info_exact = info_exact;
  set_exact = set_exact;
  round_trip = round_trip;
  remove_exact = remove_exact;
  reset_exact = reset_exact;
  iterator_exact = iterator_exact;
  walk_in_order = walk_in_order;
  refusals = refusals;
}

pub in_chunks : Incremental
in_chunks = incremental

pub demand3 : ClientIsolation
demand3 = client_isolation

pub steps : (kv rbp key name : List ℕ) (flags offset : ℕ) (iv value output : List ℕ) (h : IncSetHandle) (staging : List ℕ)
    → StepIsCall kv rbp key name flags offset iv value output h staging
steps = step-is-call

pub model : ModelExact
model = model-exact

pub premises_met : Instance
premises_met = instance

pub shapes : Shapes
shapes = shapes-hold

pub same-images : Images
same-images = images

pub every-byte-compared : (key name r copy : List ℕ) → TagComparison key name r copy
every-byte-compared = tag_comparison

pub old_cards : Downgrade
old_cards = downgrade

pub edges : Edges
edges = edges-hold

pub numerals : Numerals
numerals = numerals-hold

pub vocabulary : Vocabulary
vocabulary = vocabulary-holds
