-- A heap is sound in at most one way.
use Rattle.heap.specs.Heaps.{Heap, Sound, Edge}
use mathlib.Core.WellFounded.{Acc-prop}
use mathlib.Core.HLevel.{Π_prop}

pub sound-prop : (H : Heap) → IsProp (Sound H)
sound-prop H = Π_prop (λ i. Acc-prop {r = Edge H} {x = i})
