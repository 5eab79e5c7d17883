-- What a change at one place of a list leaves of a state.
use Rattle.std.proofs.Common.{◌≡◌, Bool, ℕ, List, set, get_or, Option, Some, sym, ◌∙◌, ap}
use Rattle.fer_events.specs.States.{State, at_place}
use Rattle.fer_events.proofs.AtPlace.{set_is_at_place}

-- a state whose list has a new item at a place is the state with the change at that place
pub slots_at_place : (s t : State) (place : Option ℕ) (i : ℕ) (change : Option ℕ → Option ℕ) (d y : Option ℕ) → s ≡ t → place ≡ Some i → y ≡ change (get_or s.slots i d) → ◌≡◌ {A = State} (record s { slots = set s.slots i y }) (record t { slots = at_place place change t.slots })
slots_at_place s t place i change d y same there changed =
    ap (λ (xs : List (Option ℕ)). record s { slots = xs }) (set_is_at_place change s.slots i d y changed)
    ∙ ap (λ (p : Option ℕ). record s { slots = at_place p change s.slots }) (sym there)
    ∙ ap (λ (u : State). record u { slots = at_place place change u.slots }) same

pub sizes_at_place : (s t : State) (place : Option ℕ) (i : ℕ) (change : ℕ → ℕ) (d y : ℕ) → s ≡ t → place ≡ Some i → y ≡ change (get_or s.sizes i d) → ◌≡◌ {A = State} (record s { sizes = set s.sizes i y }) (record t { sizes = at_place place change t.sizes })
sizes_at_place s t place i change d y same there changed =
    ap (λ (xs : List (ℕ)). record s { sizes = xs }) (set_is_at_place change s.sizes i d y changed)
    ∙ ap (λ (p : Option ℕ). record s { sizes = at_place p change s.sizes }) (sym there)
    ∙ ap (λ (u : State). record u { sizes = at_place place change u.sizes }) same

pub bytes_at_place : (s t : State) (place : Option ℕ) (i : ℕ) (change : List ℕ → List ℕ) (d y : List ℕ) → s ≡ t → place ≡ Some i → y ≡ change (get_or s.bytes i d) → ◌≡◌ {A = State} (record s { bytes = set s.bytes i y }) (record t { bytes = at_place place change t.bytes })
bytes_at_place s t place i change d y same there changed =
    ap (λ (xs : List (List ℕ)). record s { bytes = xs }) (set_is_at_place change s.bytes i d y changed)
    ∙ ap (λ (p : Option ℕ). record s { bytes = at_place p change s.bytes }) (sym there)
    ∙ ap (λ (u : State). record u { bytes = at_place place change u.bytes }) same

pub attrs_at_place : (s t : State) (place : Option ℕ) (i : ℕ) (change : List (Option ℕ) → List (Option ℕ)) (d y : List (Option ℕ)) → s ≡ t → place ≡ Some i → y ≡ change (get_or s.attrs i d) → ◌≡◌ {A = State} (record s { attrs = set s.attrs i y }) (record t { attrs = at_place place change t.attrs })
attrs_at_place s t place i change d y same there changed =
    ap (λ (xs : List (List (Option ℕ))). record s { attrs = xs }) (set_is_at_place change s.attrs i d y changed)
    ∙ ap (λ (p : Option ℕ). record s { attrs = at_place p change s.attrs }) (sym there)
    ∙ ap (λ (u : State). record u { attrs = at_place place change u.attrs }) same

pub seen_at_place : (s t : State) (place : Option ℕ) (i : ℕ) (change : Bool → Bool) (d y : Bool) → s ≡ t → place ≡ Some i → y ≡ change (get_or s.seen i d) → ◌≡◌ {A = State} (record s { seen = set s.seen i y }) (record t { seen = at_place place change t.seen })
seen_at_place s t place i change d y same there changed =
    ap (λ (xs : List (Bool)). record s { seen = xs }) (set_is_at_place change s.seen i d y changed)
    ∙ ap (λ (p : Option ℕ). record s { seen = at_place p change s.seen }) (sym there)
    ∙ ap (λ (u : State). record u { seen = at_place place change u.seen }) same
