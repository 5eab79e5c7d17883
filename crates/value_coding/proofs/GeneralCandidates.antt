-- General: a slot holds only its candidates.
use Rattle.std.proofs.Common.{◌≡◌, ℕ, ◌-◌, Bool, true, false, ◌&&◌, ◌||◌, cond, List, Option, Some, None, slice_get, unwrap_or, option_map, option_and_then, Contains, refl, ◌∙◌, ap}
use Rattle.std.proofs.lemmas.Bool.{eq-eqb}
use Rattle.std.proofs.lemmas.Option.{slice_get_within, get_or_from_slice_get}
use Rattle.fer_events.specs.declared.event.Event.{Event}
use Rattle.fer_events.specs.declared.event.Effect.{Effect}
use Rattle.fer_events.specs.declared.event.Effect.TheVariants.{Bytes, Grow, Cut, SetAttr, PutName, ClearName, See, Nothing}
use Rattle.fer_events.specs.States.{start_state}
use Rattle.fer_events.specs.Tables.{Trace}
use Rattle.value_coding.specs.declared.cell.Cell.TheVariants.{SlotOf}
use Rattle.value_coding.specs.Cells.{Value, Held, held_by}
use Rattle.value_coding.specs.Readings.{is_put, may_hold}
use Rattle.value_coding.specs.Writers.{carries, slot_given, given, value_by}
use Rattle.value_coding.proofs.Runs.{any-here}

carries-same : (held : Option ℕ) (f : ℕ) → held ≡ Some f → carries held f ≡ true
carries-same held f e = ap (λ (o : Option ℕ). carries o f) e ∙ eq-eqb f f refl

-- what a slot is given to hold is the file of an event that puts it there
given-file : (file : Option ℕ) (effect : Effect) (b : Bool) (f : ℕ) → cond b (option_map Held (slot_given file effect)) None ≡ Some (Held (Some f)) → (b ≡ true) × (file ≡ Some f) × (is_put effect ≡ true)
given-file file PutName true f e = (refl, (cc), refl)
given-file file ClearName true f e = cc
given-file file (Bytes at text) true f e = cc
given-file file (Grow at text size) true f e = cc
given-file file (Cut size) true f e = cc
given-file file (SetAttr key value) true f e = cc
given-file file (See word) true f e = cc
given-file file Nothing true f e = cc
given-file file effect false f e = cc

and-true : (a b c : Bool) → a ≡ true → b ≡ true → c ≡ true → (a && b && c) ≡ true
and-true true true true a b c = refl
and-true true true false a b c = cc
and-true true false x a b c = cc
and-true false y x a b c = cc

or-left : (a b : Bool) → a ≡ true → (a || b) ≡ true
or-left true b e = refl
or-left false b e = cc

or-right : (a b : Bool) → b ≡ true → (a || b) ≡ true
or-right true b e = refl
or-right false b e = e

held-start : (slots : List (Option ℕ)) (slot f : ℕ) (o : Option (Option ℕ)) → slice_get slots slot ≡ o → option_and_then (λ held. held) o ≡ Some f → unwrap_or o None ≡ Some f
held-start slots slot f None e h = cc
held-start slots slot f (Some held) e h = h

module _ (t : Trace) (slot f : ℕ) where
  start-holds : held_by (start_state t) slot ≡ Some f → may_hold t slot f ≡ true
  start-holds h = or-left _ _ (carries-same (unwrap_or (slice_get t.start.slots slot) None) f (held-start t.start.slots slot f (slice_get t.start.slots slot) refl h))

  event-holds : (e : Event) → Contains t.events e → given (SlotOf slot) e ≡ Some (Held (Some f)) → may_hold t slot f ≡ true
  event-holds e there g =
      let (at_slot, is_file, puts) = given-file e.file e.effect (carries e.slot slot) f g in
      or-right _ _ (any-here (λ (e : Event). carries e.slot slot && carries e.file f && is_put e.effect) t.events e there (and-true (carries e.slot slot) (carries e.file f) (is_put e.effect) at_slot (carries-same e.file f is_file) puts))

  by-given : (o : Option Value) (e : Event) → Contains t.events e → given (SlotOf slot) e ≡ o → unwrap_or o (Held (held_by (start_state t) slot)) ≡ Held (Some f) → may_hold t slot f ≡ true
  by-given None e there g h = start-holds (cc)
  by-given (Some v) e there g h = event-holds e there (g ∙ ap (λ (v : Value). Some v) h)

  by-event : (found : Option Event) → ((e : Event) → found ≡ Some e → Contains t.events e) → unwrap_or (option_and_then (given (SlotOf slot)) found) (Held (held_by (start_state t) slot)) ≡ Held (Some f) → may_hold t slot f ≡ true
  by-event None there h = start-holds (cc)
  by-event (Some e) there h = by-given (given (SlotOf slot) e) e (there e refl) refl h

  pub candidate : (writer : Option ℕ) → value_by t (SlotOf slot) writer ≡ Held (Some f) → may_hold t slot f ≡ true
  candidate None h = start-holds (cc)
  candidate (Some w) h =
      by-event (slice_get t.events (w - 1)) (λ e is. (w - 1, slice_get_within t.events (w - 1) e is, get_or_from_slice_get t.events (w - 1) e e is)) h
