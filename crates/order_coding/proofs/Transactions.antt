-- The transactions of events, by their numbers.
use Rattle.std.proofs.Common.{◌≡◌, ℕ, zero, suc, ◌-◌, ◌<◌, ◌≤◌, List, [], ◌∷◌, length, slice_get, Some, refl, sym, ◌∙◌, ap, arith}
use Rattle.std.specs.List.Sorted.{IsNonDecreasingBy}
use Rattle.std.proofs.lemmas.Option.{slice_get_within, get_or_from_slice_get}
use Rattle.std.proofs.lemmas.List.{get_or-map}
use Rattle.fer_events.specs.declared.event.Event.{Event}
use Rattle.fer_events.specs.Orders.{IsEvent, SameTransaction}
use Rattle.order_coding.specs.Variables.{IsNumber}
use Rattle.order_coding.specs.Families.{txn_of}

event-at : (events : List Event) (k : ℕ) → k < length events → (x : Event) × (slice_get events k ≡ Some x)
event-at [] k h = absurd (omega arith)
event-at (x ∷ xs) zero h = (x, refl)
event-at (x ∷ xs) (suc k) h = event-at xs k (omega arith)

pub event-of : (events : List Event) (e : ℕ) → IsNumber (length events) e → (x : Event) × IsEvent events e x
event-of events e is =
    let found = event-at events (e - 1) (omega (arith, is.0, is.1)) in
    let above : 0 < e = omega (arith, is.0) in (found.0, (above, found.1))

pub number-of : (events : List Event) (e : ℕ) (x : Event) → IsEvent events e x → IsNumber (length events) e
number-of events e x h =
    let short = slice_get_within events (e - 1) x h.1 in (omega (arith, h.0), omega (arith, h.0))

pub txn-is : (events : List Event) (e : ℕ) (x : Event) → IsEvent events e x → txn_of events e ≡ x.txn
txn-is events e x h =
    let short = slice_get_within events (e - 1) x h.1 in
    get_or-map (λ y. y.txn) events (e - 1) x 0 short ∙ ap (λ y. y.txn) (get_or_from_slice_get events (e - 1) x x h.1)

pub together :
    (events : List Event) (a b : ℕ) → IsNumber (length events) a → IsNumber (length events) b
    → txn_of events a ≡ txn_of events b → SameTransaction events a b
together events a b ia ib same =
    let x = event-of events a ia in
    let y = event-of events b ib in
    (x.0, y.0, x.1, y.1, sym (txn-is events a x.0 x.1) ∙ same ∙ txn-is events b y.0 y.1)

-- numbers of transactions never fall
pub txns-rise :
    (events : List Event) (a b : ℕ) → IsNonDecreasingBy (λ e. e.txn) events → IsNumber (length events) a
    → IsNumber (length events) b → a ≤ b → txn_of events a ≤ txn_of events b
txns-rise events a b rise ia ib l =
    let x = event-of events a ia in
    let y = event-of events b ib in
    let at_a = get_or_from_slice_get events (a - 1) x.0 x.0 x.1.1 in
    let at_b = get_or_from_slice_get events (b - 1) y.0 x.0 y.1.1 in
    let up = rise (a - 1) (b - 1) x.0 (omega arith) (omega (arith, ib.0, ib.1)) in
    omega (arith, txn-is events a x.0 x.1, txn-is events b y.0 y.1, ap (λ e. e.txn) at_a, ap (λ e. e.txn) at_b, up)
