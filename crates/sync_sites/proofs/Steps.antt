-- What each step of the list adds.
use Rattle.std.proofs.Common.{◌≡◌, ◌⊎◌, inl, inr, ℕ, ◌+◌, ◌<◌, ◌≤◌, Bool, true, false, cond, if◌then◌else◌, List, [], ◌∷◌, ◌++◌, length, map, take, fold, get_or, Option, Some, None, refl, sym, ◌∙◌, ap, arith, subst}
use Rattle.std.specs.Prelude.{nat_le, filter, slice_get, slice_index_or}
use Rattle.std.proofs.lemmas.Bool.{cases_Bool}
use Rattle.std.proofs.lemmas.Bool.Decides.{nat_tests}
use Rattle.std.specs.Option.{option_eq}
use Rattle.std.proofs.Math.Dec.{eqb}
use Rattle.std.specs.List.{range_with_len, flat_map}
use Rattle.std.proofs.lemmas.List.{map_more, take-map, flat_map_more}
use Rattle.std.proofs.lemmas.List.Sums.{fold-append}
use Rattle.litmus_syntax.specs.declared.call.Call.{Call}
use Rattle.litmus_syntax.specs.declared.call.Call.TheVariants.{Fsync}
use Rattle.litmus_syntax.specs.declared.call.Step.{Step}
use Rattle.litmus_syntax.specs.declared.site.Site.{Site}
use Rattle.litmus_syntax.specs.declared.site.SiteKind.{SiteKind}
use Rattle.litmus_syntax.specs.Transactions.{calls_of, open_behind, is_open}
use Rattle.fer_events.specs.declared.event.Event.{Event}
use Rattle.fer_events.specs.declared.tables.SlotName.{SlotName}
use Rattle.fer_events.specs.Paths.{slot_path}
use Rattle.fer_events.specs.States.{start_state}
use Rattle.fer_events.specs.Tables.{Trace, IsTrace}
use Rattle.fer_events.specs.Truth.{item_at}
use Rattle.sync_sites.specs.Passing.{held_after, held_upto}
use Rattle.sync_sites.specs.SiteLists.{events_upto, held_behind, touches_file, name_texts, names_of, least, sync_by, is_number, lesser, file_sync, syncs_behind, sites_behind, sites_upto, events_with_sites}
use Rattle.sync_sites.proofs.Lists.{fold_filter_more, fold_numbers_more, range_more, slots_fold, length-held_fold}

-- what the slots hold behind the first k calls
pub held_is : (k : ℕ) (t : Trace) → held_upto k t.start.slots t.events ≡ held_behind k t
held_is k t = sym (slots_fold (start_state t) (events_upto k t))

pub length-held : (k : ℕ) (t : Trace) → IsTrace t → length (held_behind k t) ≡ length t.slots
length-held k t rules = ap (λ (h : List (Option ℕ)). length h) (sym (held_is k t)) ∙ length-held_fold t.start.slots (events_upto k t) ∙ rules.slots_held

pub event_taken : (k : ℕ) (start held : List (Option ℕ)) (events : List Event) (i : ℕ) (e : Event) → i < length events → e ≡ get_or events i e → nat_le e.call k ≡ true
    → held ≡ held_upto k start (take i events) → held_after held e ≡ held_upto k start (take (i + 1) events)
event_taken k start held events i e there is early so_far =
    let p : Event → Bool = λ (x : Event). nat_le x.call k in
    let h : List (Option ℕ) = held_upto k start (take i events) in
    ap (λ (x : List (Option ℕ)). held_after x e) so_far
    ∙ ap (λ (b : Bool). cond b (held_after h e) h) (sym early)
    ∙ ap (λ (x : Event). cond (p x) (held_after h x) h) is
    ∙ sym (fold_filter_more held_after p start events i e there)

pub event_left : (k : ℕ) (start held : List (Option ℕ)) (events : List Event) (i : ℕ) (e : Event) → i < length events → e ≡ get_or events i e → nat_le e.call k ≡ false
    → held ≡ held_upto k start (take i events) → held ≡ held_upto k start (take (i + 1) events)
event_left k start held events i e there is late so_far =
    let p : Event → Bool = λ (x : Event). nat_le x.call k in
    let h : List (Option ℕ) = held_upto k start (take i events) in
    so_far
    ∙ ap (λ (b : Bool). cond b (held_after h e) h) (sym late)
    ∙ ap (λ (x : Event). cond (p x) (held_after h x) h) is
    ∙ sym (fold_filter_more held_after p start events i e there)

-- the sync of a file that has a name
pub named_sync : (k : ℕ) (t : Trace) (file slot : ℕ) (texts : List (List ℕ)) (held : List (Option ℕ)) (name : SlotName) (path : List (List ℕ)) → touches_file k t file ≡ true
    → texts ≡ name_texts t → held ≡ held_behind k t → least texts (names_of held file) ≡ Some slot → slice_get t.slots slot ≡ Some name → path ≡ slot_path t.dirs name
    → Fsync path ∷ [] ≡ file_sync k t file
named_sync k t file slot texts held name path touched is holds found there by =
    let best : least (name_texts t) (names_of (held_behind k t) file) ≡ Some slot = rw (← is, ← holds) found in
    let slot_is : item_at t.slots (least (name_texts t) (names_of (held_behind k t) file)) ≡ Some name = ap (item_at t.slots) best ∙ there in
    rw (touched, slot_is, by) refl

-- the sync of a file that has none
pub unnamed_sync : (k : ℕ) (t : Trace) (file : ℕ) (texts : List (List ℕ)) (held : List (Option ℕ)) → texts ≡ name_texts t → held ≡ held_behind k t → least texts (names_of held file) ≡ None
    → file_sync k t file ≡ []
unnamed_sync k t file texts held is holds found =
    let best : least (name_texts t) (names_of (held_behind k t) file) ≡ None = rw (← is, ← holds) found in
    chosen (touches_file k t file) (ap (λ (o : Option ℕ). sync_by t (item_at t.slots o)) best)
  where
    chosen : (b : Bool) {calls : List Call} → calls ≡ [] → (if b then calls else []) ≡ []
    chosen true e = e
    chosen false e = refl

-- a slot holds the file, or doesn't
pub is_held : (o : Option ℕ) (file : ℕ) (b : Bool) → option_eq eqb o (Some file) ≡ b → is_number o file ≡ b
is_held None file b e = e
is_held (Some f) file b e = e

pub name_taken : (texts : List (List ℕ)) (held : List (Option ℕ)) (file slot : ℕ) (so_far : Option ℕ) → is_number (slice_index_or held slot None) file ≡ true
    → so_far ≡ least texts (filter (λ s. is_number (slice_index_or held s None) file) (range_with_len 0 slot))
    → lesser texts so_far slot ≡ least texts (filter (λ s. is_number (slice_index_or held s None) file) (range_with_len 0 (slot + 1)))
name_taken texts held file slot so_far holds is =
    let p : ℕ → Bool = λ s. is_number (slice_index_or held s None) file in
    let best : Option ℕ = least texts (filter p (range_with_len 0 slot)) in
    ap (λ (o : Option ℕ). lesser texts o slot) is
    ∙ ap (λ (b : Bool). cond b (lesser texts best slot) best) (sym holds)
    ∙ sym (fold_numbers_more (lesser texts) p None slot)

pub name_left : (texts : List (List ℕ)) (held : List (Option ℕ)) (file slot : ℕ) (so_far : Option ℕ) → is_number (slice_index_or held slot None) file ≡ false
    → so_far ≡ least texts (filter (λ s. is_number (slice_index_or held s None) file) (range_with_len 0 slot))
    → so_far ≡ least texts (filter (λ s. is_number (slice_index_or held s None) file) (range_with_len 0 (slot + 1)))
name_left texts held file slot so_far free is =
    let p : ℕ → Bool = λ s. is_number (slice_index_or held s None) file in
    let best : Option ℕ = least texts (filter p (range_with_len 0 slot)) in
    is
    ∙ ap (λ (b : Bool). cond b (lesser texts best slot) best) (sym free)
    ∙ sym (fold_numbers_more (lesser texts) p None slot)

-- whether a transaction is open behind one call more
pub open_more : (body : List Step) (i : ℕ) (step : Step) (inside now : Bool) → i < length body → step ≡ get_or body i step → inside ≡ is_open (take i (calls_of body)) → now ≡ open_behind inside step.call
    → now ≡ is_open (take (i + 1) (calls_of body))
open_more body i step inside now there is before behind =
    let P : Step → Call = λ s. s.call in
    behind
    ∙ ap (λ (b : Bool). open_behind b step.call) before
    ∙ ap (λ (cs : List Call). open_behind (is_open cs) step.call) (take-map P i body)
    ∙ ap (λ (s : Step). open_behind (is_open (map P (take i body))) s.call) is
    ∙ sym (fold-append open_behind false (map P (take i body)) (P (get_or body i step) ∷ []))
    ∙ ap (fold open_behind false) (sym (map_more P body i step there))
    ∙ ap (fold open_behind false) (sym (take-map P (i + 1) body))

-- the sites behind one call more
pub sites_more : (kind : SiteKind) (body : List Step) (t : Trace) (i : ℕ) → sites_upto kind body t (i + 1) ≡ sites_upto kind body t i ++ sites_behind kind body t (i + 1)
sites_more kind body t i =
    let e : 1 + i ≡ i + 1 = omega arith in
    ap (flat_map (sites_behind kind body t)) (range_more 1 i)
    ∙ sym (flat_map_more (sites_behind kind body t) [] (range_with_len 1 i) (1 + i))
    ∙ ap (λ (k : ℕ). sites_upto kind body t i ++ sites_behind kind body t k) e

pub sites_step : (kind : SiteKind) (body : List Step) (t : Trace) (i : ℕ) (now : Bool) (before behind : List Site) → now ≡ is_open (take (i + 1) (calls_of body)) → before ≡ sites_upto kind body t i
    → behind ≡ before ++ (if now then [] else map (λ call. record { after = i + 1; call = call }) (syncs_behind kind (i + 1) t)) → behind ≡ sites_upto kind body t (i + 1)
sites_step kind body t i now before behind opened so_far is =
    is
    ∙ ap (λ (b : Bool). before ++ (if b then [] else map (λ call. record { after = i + 1; call = call }) (syncs_behind kind (i + 1) t))) opened
    ∙ ap (λ (s : List Site). s ++ sites_behind kind body t (i + 1)) so_far
    ∙ sym (sites_more kind body t i)

-- so far there aren't too many, with one call more
pub counted_more : (kind : SiteKind) (body : List Step) (t : Trace) (i : ℕ) → ((k : ℕ) → k ≤ i → events_with_sites kind body t k ≤ 128) → events_with_sites kind body t (i + 1) ≤ 128
    → (k : ℕ) → k ≤ i + 1 → events_with_sites kind body t k ≤ 128
counted_more kind body t i before now k upto = elim (last_or_before k i upto) [
  | inl early ↦ before k early
  | inr last ↦ subst (λ (n : ℕ). events_with_sites kind body t n ≤ 128) (sym last) now
]
  where
    last_or_before : (k i : ℕ) → k ≤ i + 1 → (k ≤ i) ⊎ (k ≡ i + 1)
    last_or_before k i upto = elim (cases_Bool (nat_le k i)) [
      | inl yes_le ↦ inl (grind (arith, nat_tests))
      | inr no_le ↦ inr (grind (arith, nat_tests))
    ]
