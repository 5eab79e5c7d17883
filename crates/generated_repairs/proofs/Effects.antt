-- What events leave of a name and of a word: a name that was put holds a file as long as none is cleared, and a word was
-- seen only by an event that sees it.
use Rattle.std.proofs.Common.{◌≡◌, ◌⊎◌, inl, inr, ℕ, zero, suc, ◌-◌, Bool, true, false, List, [], ◌∷◌, Option, Some, None, slice_get, is_some, Contains, replicate, refl, sym, ◌∙◌, ap, subst, arith}
use Rattle.std.proofs.lemmas.Bool.{true≢false}
use Rattle.fer_events.specs.declared.event.Event.{Event}
use Rattle.fer_events.specs.declared.event.Effect.{Effect}
use Rattle.fer_events.specs.declared.event.Effect.TheVariants.{Bytes, Grow, Cut, SetAttr, PutName, ClearName, See, Nothing}
use Rattle.fer_events.specs.States.{State, at_place, effected, after_event, after_option, after_numbers}
use Rattle.fer_events.proofs.Times.{contains_cases}

-- no name is cleared, and one that is put holds a file
abbrev pub KeepsNames : Option ℕ → Effect → Type 0
KeepsNames file PutName = is_some file ≡ true
KeepsNames file ClearName = ⊥
KeepsNames file effect = Unit {0}

abbrev pub AllKeepNames : List Event → Type 0
AllKeepNames events = (i : ℕ) (e : Event) → slice_get events i ≡ Some e → KeepsNames e.file e.effect

-- the slot holds a file
abbrev pub Holds : List (Option ℕ) → ℕ → Type 0
Holds slots k = (f : ℕ) × (slice_get slots k ≡ Some (Some f))

-- the slot is one of the table
abbrev pub IsSlot : List (Option ℕ) → ℕ → Type 0
IsSlot slots k = (held : Option ℕ) × (slice_get slots k ≡ Some held)

-- a file that is put leaves each slot that holds a file with a file
put_holding : (slot : Option ℕ) (f : ℕ) (slots : List (Option ℕ)) (k : ℕ) → Holds slots k → Holds (at_place slot (λ _. Some f) slots) k
put_holding None f slots k h = h
put_holding (Some j) f [] k h = h
put_holding (Some zero) f (x ∷ xs) zero h = (f, refl)
put_holding (Some zero) f (x ∷ xs) (suc k) h = h
put_holding (Some (suc j)) f (x ∷ xs) zero h = h
put_holding (Some (suc j)) f (x ∷ xs) (suc k) h = put_holding (Some j) f xs k h

put_here : (f : ℕ) (slots : List (Option ℕ)) (k : ℕ) → IsSlot slots k → Holds (at_place (Some k) (λ _. Some f) slots) k
put_here f [] k (held, h) = absurd (let bad : None ≡ Some held = h in cc)
put_here f (x ∷ xs) zero h = (f, refl)
put_here f (x ∷ xs) (suc k) h = put_here f xs k h

put_slot : (slot : Option ℕ) (file : Option ℕ) (slots : List (Option ℕ)) (k : ℕ) → IsSlot slots k → IsSlot (at_place slot (λ _. file) slots) k
put_slot None file slots k h = h
put_slot (Some j) file [] k h = h
put_slot (Some zero) file (x ∷ xs) zero h = (file, refl)
put_slot (Some zero) file (x ∷ xs) (suc k) h = h
put_slot (Some (suc j)) file (x ∷ xs) zero h = h
put_slot (Some (suc j)) file (x ∷ xs) (suc k) h = put_slot (Some j) file xs k h

put_file : (slot file : Option ℕ) (slots : List (Option ℕ)) (k : ℕ) → is_some file ≡ true → Holds slots k → Holds (at_place slot (λ _. file) slots) k
put_file slot None slots k there h = absurd (true≢false (sym there))
put_file slot (Some f) slots k there h = put_holding slot f slots k h

-- so does each effect but that of a cleared name
effect_holding : (s : State) (slot file : Option ℕ) (e : Effect) (k : ℕ) → KeepsNames file e → Holds s.slots k → Holds (effected s slot file e).slots k
effect_holding s slot file PutName k keeps h = put_file slot file s.slots k keeps h
effect_holding s slot file ClearName k keeps h = absurd keeps
effect_holding s slot file (Bytes at text) k keeps h = h
effect_holding s slot file (Grow at text size) k keeps h = h
effect_holding s slot file (Cut size) k keeps h = h
effect_holding s slot file (SetAttr key value) k keeps h = h
effect_holding s slot file (See word) k keeps h = h
effect_holding s slot file Nothing k keeps h = h

effect_slot : (s : State) (slot file : Option ℕ) (e : Effect) (k : ℕ) → IsSlot s.slots k → IsSlot (effected s slot file e).slots k
effect_slot s slot file PutName k h = put_slot slot file s.slots k h
effect_slot s slot file ClearName k h = put_slot slot None s.slots k h
effect_slot s slot file (Bytes at text) k h = h
effect_slot s slot file (Grow at text size) k h = h
effect_slot s slot file (Cut size) k h = h
effect_slot s slot file (SetAttr key value) k h = h
effect_slot s slot file (See word) k h = h
effect_slot s slot file Nothing k h = h

put_effect : (s : State) (slot file : Option ℕ) (e : Effect) (k : ℕ) → slot ≡ Some k → e ≡ PutName → is_some file ≡ true → IsSlot s.slots k → Holds (effected s slot file e).slots k
put_effect s slot None e k at is there h = absurd (true≢false (sym there))
put_effect s slot (Some f) e k at is there h = rw (is, at) (put_here f s.slots k h)

-- what holds before all events and is kept by each event of a list holds behind those of these numbers
module _ (events : List Event) (P : State → Type 0) (step : (s : State) (i : ℕ) (e : Event) → slice_get events i ≡ Some e → P s → P (after_event s e)) where
  option_step : (s : State) (i : ℕ) (o : Option Event) → slice_get events i ≡ o → P s → P (after_option s o)
  option_step s i None is h = h
  option_step s i (Some e) is h = step s i e is h

  number_step : (s : State) (a : ℕ) → P s → P (after_option s (slice_get events (a - 1)))
  number_step s a h = option_step s (a - 1) (slice_get events (a - 1)) refl h

  numbers_step : (order : List ℕ) (s : State) → P s → P (after_numbers events s order)
  numbers_step [] s h = h
  numbers_step (a ∷ order) s h = numbers_step order (after_option s (slice_get events (a - 1))) (number_step s a h)

-- an event puts the slot, and no event clears a name: where it is one of these numbers the slot holds a file
pub put_holds : (events : List Event) (order : List ℕ) (s : State) (a k : ℕ) (e : Event) → AllKeepNames events → slice_get events (a - 1) ≡ Some e → e.slot ≡ Some k → e.effect ≡ PutName
    → Contains order a → IsSlot s.slots k → Holds (after_numbers events s order).slots k
put_holds events [] s a k e keep is at puts (i, l, same) there = absurd (omega arith)
put_holds events (b ∷ order) s a k e keep is at puts among there = elim (contains_cases b order a among) [
  | inl here ↦
      let found : slice_get events (b - 1) ≡ Some e = ap (λ (n : ℕ). slice_get events (n - 1)) here ∙ is in
      let file : is_some e.file ≡ true = subst (KeepsNames e.file) puts (keep (a - 1) e is) in
      let now : Holds (after_event s e).slots k = put_effect s e.slot e.file e.effect k at puts file there in
      let first : Holds (after_option s (slice_get events (b - 1))).slots k = rw found now in
      numbers_step events (λ u. Holds u.slots k) (λ u i f found h. effect_holding u f.slot f.file f.effect k (keep i f found) h) order (after_option s (slice_get events (b - 1))) first
  | inr later ↦
      let slot_stays : IsSlot (after_option s (slice_get events (b - 1))).slots k =
      number_step events (λ u. IsSlot u.slots k) (λ u i f found h. effect_slot u f.slot f.file f.effect k h) s b there in
      put_holds events order (after_option s (slice_get events (b - 1))) a k e keep is at puts later slot_stays
]

-- a word that is seen is the one that was seen now, or was seen before
seen_place : (word w : ℕ) (seen : List Bool) → slice_get (at_place (Some word) (λ _. true) seen) w ≡ Some true → (word ≡ w) ⊎ (slice_get seen w ≡ Some true)
seen_place word w [] h = inr h
seen_place zero zero (x ∷ xs) h = inl refl
seen_place zero (suc w) (x ∷ xs) h = inr h
seen_place (suc word) zero (x ∷ xs) h = inr h
seen_place (suc word) (suc w) (x ∷ xs) h = elim (seen_place word w xs h) [ inl e ↦ inl (ap suc e) | inr before ↦ inr before ]

seen_effect : (s : State) (slot file : Option ℕ) (e : Effect) (w : ℕ) → slice_get (effected s slot file e).seen w ≡ Some true → (e ≡ See w) ⊎ (slice_get s.seen w ≡ Some true)
seen_effect s slot file (See word) w h = elim (seen_place word w s.seen h) [ inl e ↦ inl (ap See e) | inr before ↦ inr before ]
seen_effect s slot file PutName w h = inr h
seen_effect s slot file ClearName w h = inr h
seen_effect s slot file (Bytes at text) w h = inr h
seen_effect s slot file (Grow at text size) w h = inr h
seen_effect s slot file (Cut size) w h = inr h
seen_effect s slot file (SetAttr key value) w h = inr h
seen_effect s slot file Nothing w h = inr h

seen_option : (s : State) (o : Option Event) (w : ℕ) → slice_get (after_option s o).seen w ≡ Some true → ((e : Event) × (o ≡ Some e) × (e.effect ≡ See w)) ⊎ (slice_get s.seen w ≡ Some true)
seen_option s None w h = inr h
seen_option s (Some e) w h = elim (seen_effect s e.slot e.file e.effect w h) [ inl sees ↦ inl (e, refl, sees) | inr before ↦ inr before ]

-- an event of one of these numbers sees the word
abbrev pub IsSeenBy : List Event → List ℕ → ℕ → Type 0
IsSeenBy events order w = (a : ℕ) × (e : Event) × Contains order a × (slice_get events (a - 1) ≡ Some e) × (e.effect ≡ See w)

-- a word that was seen behind these events was seen before them, or one of them sees it
pub seen_by : (events : List Event) (order : List ℕ) (s : State) (w : ℕ) → slice_get (after_numbers events s order).seen w ≡ Some true → IsSeenBy events order w ⊎ (slice_get s.seen w ≡ Some true)
seen_by events [] s w h = inr h
seen_by events (b ∷ order) s w h = elim (seen_by events order (after_option s (slice_get events (b - 1))) w h) [
  | inl (a, e, (i, l, same), is, sees) ↦ inl (a, e, (suc i, omega arith, same), is, sees)
  | inr before ↦ elim (seen_option s (slice_get events (b - 1)) w before) [
    | inl (e, is, sees) ↦ inl (b, e, (zero, omega arith, refl), is, sees)
    | inr first ↦ inr first
  ]
]

-- before all events no word was seen
pub none_seen : (n w : ℕ) → slice_get (replicate n false) w ≡ Some true → ⊥
none_seen zero w h = let bad : None ≡ Some true = h in cc
none_seen (suc n) zero h = let bad : Some false ≡ Some true = h in cc
none_seen (suc n) (suc w) h = none_seen n w h
