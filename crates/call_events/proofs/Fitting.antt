-- Events fit the files behind their call, and all that these grow to.
use Rattle.std.proofs.Common.{◌≡◌, ℕ, ◌-◌, ◌<◌, ◌≤◌, List, ◌++◌, length, get_or, Option, Some, None, IfSome, slice_get, All, sym, ◌∙◌, ap, inl, inr, arith, length-append}
use Rattle.std.specs.Option.{option_map}
use Rattle.std.specs.List.Sorted.{IsNonDecreasingBy}
use Rattle.std.proofs.lemmas.Bool.{cases_lt}
use Rattle.std.proofs.lemmas.List.{get_or_append_left, get_or-append-add}
use Rattle.std.proofs.lemmas.List.Elements.{All-weaker}
use Rattle.std.proofs.lemmas.List.Quantifiers.{position-Some}
use Rattle.std.proofs.lemmas.Option.{slice_get_cases, slice_get-get_or}
use Rattle.fer_events.specs.declared.event.Event.{Event}
use Rattle.fer_events.specs.declared.event.Kind.{Kind}
use Rattle.fer_events.specs.declared.event.Kind.TheVariants as kind
use Rattle.fer_events.specs.declared.event.Effect.{Effect}
use Rattle.fer_events.specs.declared.event.Effect.TheVariants.{SetAttr, See}
use Rattle.fer_events.specs.declared.tables.SlotName.{SlotName}
use Rattle.fer_events.specs.Tables.{HasEffect, IsEventOf}
use Rattle.call_events.specs.declared.files.Files.{Files}
use Rattle.fer_events.specs.Paths.{entry_number, same_entry}
use Rattle.call_events.specs.Runs.{Grows, now}
use Rattle.call_events.proofs.Whole.{both_true, same_number}

pub if_weaker : (P Q : ℕ → Type 0) (o : Option ℕ) → ((k : ℕ) → P k → Q k) → IfSome o P → IfSome o Q
if_weaker P Q None weaker h = tt
if_weaker P Q (Some k) weaker h = weaker k h

slot_grows : (s t : Files) (k : ℕ) (dir : Option ℕ) → Grows s t → option_map (λ n. Some n.dir) (slice_get s.slots k) ≡ Some dir → option_map (λ n. Some n.dir) (slice_get t.slots k) ≡ Some dir
slot_grows s t k dir grown h = elim ((slice_get_cases s.slots k).1) [
  | inl there ↦ ap (option_map (λ n. Some n.dir)) (grown.slots k there.0 there.2 ∙ sym there.2) ∙ h
  | inr past ↦ let bad : None ≡ Some dir = ap (option_map (λ n. Some n.dir)) (sym past.1) ∙ h in cc
]

effect_grows : (s t : Files) (k : Kind) (e : Effect) → Grows s t → HasEffect (now s) k e → HasEffect (now t) k e
effect_grows s t kind.Attr (SetAttr key value) grown h = omega (arith, h, grown.keys)
effect_grows s t kind.Mark (See word) grown h = omega (arith, h, grown.words)
effect_grows s t k e grown h = h

-- an event of files is one of what they grow to
pub event_grows : (s t : Files) (e : Event) → Grows s t → IsEventOf (now s) e → IsEventOf (now t) e
event_grows s t e grown h = record {
  carries = h.carries;
  file_there = if_weaker (λ f. f < length s.contents) (λ f. f < length t.contents) e.file (λ f l. omega (arith, l, grown.files)) h.file_there;
  dir_there = if_weaker (λ d. d < length s.dirs) (λ d. d < length t.dirs) e.dir (λ d l. omega (arith, l, grown.dirs)) h.dir_there;
  slot_there = if_weaker (λ k. option_map (λ n. Some n.dir) (slice_get s.slots k) ≡ Some e.dir) (λ k. option_map (λ n. Some n.dir) (slice_get t.slots k) ≡ Some e.dir) e.slot (λ k l. slot_grows s t k e.dir grown l) h.slot_there;
  effect = effect_grows s t e.kind e.effect grown h.effect;
}

pub events_grow : (s t : Files) (events : List Event) → Grows s t → All (IsEventOf (now s)) events → All (IsEventOf (now t)) events
events_grow s t events grown all = All-weaker (IsEventOf (now s)) (IsEventOf (now t)) (λ e h. event_grows s t e grown h) events all

-- the slot with an entry's number is in the entry's directory
pub entry_dir : (slots : List SlotName) (e : SlotName) (o : Option ℕ) → entry_number slots e ≡ o → IfSome o (λ k. option_map (λ n. Some n.dir) (slice_get slots k) ≡ Some (Some e.dir))
entry_dir slots e None h = tt
entry_dir slots e (Some k) h =
    let at = position-Some (λ slot. same_entry slot e) slots k e h in
    let same : (get_or slots k e).dir ≡ e.dir = same_number _ _ (both_true _ _ at.1).0 in
    ap (option_map (λ n. Some n.dir)) (slice_get-get_or slots k e at.0) ∙ ap (λ (d : ℕ). Some (Some d)) same

-- numbers that don't fall in two lists, the first not above the second, don't fall in both together
pub rise_append : (f : Event → ℕ) (m : ℕ) (xs ys : List Event) → IsNonDecreasingBy f xs → IsNonDecreasingBy f ys → All (λ e. f e ≤ m) xs → All (λ e. m ≤ f e) ys → IsNonDecreasingBy f (xs ++ ys)
rise_append f m xs ys first second below above = λ i j d l h. elim (cases_lt j (length xs)) [
  | inl near ↦ rw (get_or_append_left xs ys d i (omega (arith, l, near)), get_or_append_left xs ys d j near) (first i j d l near)
  | inr far ↦ elim (cases_lt i (length xs)) [
    | inl split ↦ omega (arith, ap f (get_or_append_left xs ys d i split), below i d split, ap f (behind xs ys j d far), above (j - length xs) d (omega (arith, h, length-append xs ys)))
    | inr both ↦ omega (arith, ap f (behind xs ys i d both), ap f (behind xs ys j d far), second (i - length xs) (j - length xs) d (omega (arith, l, both)) (omega (arith, h, far, length-append xs ys)))
  ]
]
  where
    behind : (xs ys : List Event) (k : ℕ) (d : Event) → length xs ≤ k → get_or (xs ++ ys) k d ≡ get_or ys (k - length xs) d
    behind xs ys k d far = ap (λ (n : ℕ). get_or (xs ++ ys) n d) (omega (arith, far)) ∙ get_or-append-add xs ys (k - length xs) d
