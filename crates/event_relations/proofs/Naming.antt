-- The rows of the names of definitions, one after another.
use Rattle.std.proofs.Common.{◌≡◌, ℕ, zero, suc, ◌+◌, ◌<◌, ◌≤◌, ◌↔◌, inl, inr, List, [], ◌∷◌, length, drop, All, get_or, refl, sym, ◌∙◌, ap, subst, arith}
use Rattle.std.proofs.lemmas.List.{length_push, drop_more, drop_all}
use Rattle.std.proofs.lemmas.List.Elements.{All-push}
use Rattle.fer_events.specs.declared.event.Event.{Event}
use Rattle.model_reader.specs.declared.model.Definition.{Definition}
use Rattle.event_relations.specs.Meaning.{Names, AreWithin, with_name, Defined, names_from, names_of, no_names}
use Rattle.event_relations.specs.Showing.{Shows, names_shown, shown, NamesWithin, HasOneMore, AreNames}
use Rattle.event_relations.proofs.Within.{with_name_within, defined_within}
use Rattle.event_relations.proofs.Growing.{whole_part, names_from_grow}
use Rattle.event_relations.proofs.Joining.{has_within}
use Rattle.event_relations.proofs.RowRounds.{pushed_is_more, more_is_pushed}

-- the names stand for the same pairs
abbrev pub AreSame : Names → Names → Type 0
AreSame names others = (i a b : ℕ) → names i a b ↔ others i a b

-- definitions make the same of the same
from_same :
    (events : List Event) (lets : List Definition) (i : ℕ) (names others : Names) → NamesWithin events names → NamesWithin events others → AreSame names others
    → AreSame (names_from events i names lets) (names_from events i others lets)
from_same events lets i names others ok also same j a b = (
  names_from_grow events events (λ a. a) (whole_part events) lets i names others ok (λ k c d. (same k c d).0) j a b,
  names_from_grow events events (λ a. a) (whole_part events) lets i others names also (λ k c d. (same k c d).1) j a b,
)

-- the rows of the first k definitions' names, from which the others make what all of them make
pub record AreNamesTo (events : List Event) (lets : List Definition) (k : ℕ) (names : List (List ℕ)) : Type 0 where
  pub count : length names ≡ k
  pub long : All (λ rows. length rows ≡ length events) names
  pub within : NamesWithin events (names_shown names)
  pub same : AreSame (names_from events k (names_shown names) (drop k lets)) (names_of events lets)

nothing_named : (i a b : ℕ) → names_shown [] i a b → ⊥
nothing_named i zero b h = h
nothing_named i (suc a) zero h = h
nothing_named i (suc a) (suc b) h = absurd (omega (arith, has_within [] a b h))

pub names_start : (events : List Event) (lets : List Definition) → AreNamesTo events lets 0 []
names_start events lets = record {
  count = refl;
  long = λ k rows out. absurd (omega (arith, out));
  within = λ i a b h. absurd (nothing_named i a b h);
  same = from_same events lets 0 (names_shown []) no_names (λ i a b h. absurd (nothing_named i a b h)) (λ i a b h. absurd h)
      (λ i a b. (λ h. absurd (nothing_named i a b h), λ h. absurd h));
}

-- rows that show a relation show it at each pair of events
pub shown_is : (events : List Event) (rows : List ℕ) (related : ℕ → ℕ → Type 0) → Shows rows related → ((a b : ℕ) → related a b → AreWithin (length events) a b)
    → (a b : ℕ) → shown rows a b ↔ related a b
shown_is events rows related shows within zero b = (λ h. absurd h, λ h. absurd (omega (arith, (within 0 b h).first.0)))
shown_is events rows related shows within (suc a) zero = (λ h. absurd h, λ h. absurd (omega (arith, (within (suc a) 0 h).second.0)))
shown_is events rows related shows within (suc a) (suc b) = shows a b

with_name_same :
    (names : Names) (i : ℕ) (related others : ℕ → ℕ → Type 0) → ((a b : ℕ) → related a b ↔ others a b) → AreSame (with_name i related names) (with_name i others names)
with_name_same names i related others same j a b = (
  λ h. elim h [ inl own ↦ inl (own.0, (same a b).0 own.1) | inr other ↦ inr other ],
  λ h. elim h [ inl own ↦ inl (own.0, (same a b).1 own.1) | inr other ↦ inr other ],
)

-- names with one more row are the names with one more
one_more :
    (events : List Event) (d : Definition) (names more_names : List (List ℕ)) → NamesWithin events (names_shown names)
    → HasOneMore events d.recursive d.value names more_names
    → AreSame (names_shown more_names) (with_name (length names) (Defined events (names_shown names) (length names) d.recursive d.value) (names_shown names))
one_more events d names more_names ok is i a b =
    let related : ℕ → ℕ → Type 0 = Defined events (names_shown names) (length names) d.recursive d.value in
    let within : (a b : ℕ) → related a b → AreWithin (length events) a b = λ a b h. defined_within events (names_shown names) ok (length names) d.recursive d.value a b h in
    let turned = with_name_same (names_shown names) (length names) (shown is.rows) related (shown_is events is.rows related is.shows within) i a b in
    subst (λ (ns : List (List ℕ)). names_shown ns i a b ↔ with_name (length names) related (names_shown names) i a b) (sym is.pushed) (
      λ h. turned.0 (pushed_is_more names is.rows (length names) i a b refl h),
      λ h. more_is_pushed names is.rows (length names) i a b refl (turned.1 h),
    )

-- the next definition's name
pub names_more :
    (events : List Event) (lets : List Definition) (k : ℕ) (d : Definition) (names more_names : List (List ℕ)) → k < length lets → d ≡ get_or lets k d
    → AreNamesTo events lets k names → HasOneMore events d.recursive d.value names more_names → AreNamesTo events lets (k + 1) more_names
names_more events lets k d names more_names there at are is =
    let related : ℕ → ℕ → Type 0 = Defined events (names_shown names) (length names) d.recursive d.value in
    let more : Names = with_name (length names) related (names_shown names) in
    let same : AreSame (names_shown more_names) more = one_more events d names more_names are.within is in
    let inside : NamesWithin events more = with_name_within events (names_shown names) are.within (length names) related (λ a b h. defined_within events (names_shown names) are.within (length names) d.recursive d.value a b h) in
    let within : NamesWithin events (names_shown more_names) = λ i a b h. inside i a b ((same i a b).0 h) in
    let rest : drop k lets ≡ d ∷ drop (k + 1) lets = drop_more lets k d there ∙ ap (λ (e : Definition). e ∷ drop (k + 1) lets) (sym at) in
    let next : suc k ≡ k + 1 = omega arith in
    let before : AreSame (names_from events k (names_shown names) (d ∷ drop (k + 1) lets)) (names_of events lets) =
    subst (λ (ds : List Definition). AreSame (names_from events k (names_shown names) ds) (names_of events lets)) rest are.same in
    let here : AreSame (names_from events (k + 1) more (drop (k + 1) lets)) (names_of events lets) =
    subst (λ (j : ℕ). AreSame (names_from events j more (drop (k + 1) lets)) (names_of events lets)) next
    (subst (λ (j : ℕ). AreSame (names_from events (suc k) (with_name j (Defined events (names_shown names) j d.recursive d.value) (names_shown names)) (drop (k + 1) lets)) (names_of events lets)) (sym are.count) before) in
    record {
      count = ap length is.pushed ∙ length_push names is.rows ∙ ap (λ (n : ℕ). n + 1) are.count;
      long = subst (λ (ns : List (List ℕ)). All (λ rows. length rows ≡ length events) ns) (sym is.pushed) (All-push (λ rows. length rows ≡ length events) names is.rows are.long is.long);
      within = within;
      same = λ i a b.
          let step = from_same events (drop (k + 1) lets) (k + 1) (names_shown more_names) more within inside same i a b in
          (λ h. (here i a b).0 (step.0 h), λ h. step.1 ((here i a b).1 h));
    }

pub names_end : (events : List Event) (lets : List Definition) (k : ℕ) (names : List (List ℕ)) → AreNamesTo events lets k names → length lets ≤ k → AreNames events lets names
names_end events lets k names are all = record {
  long = are.long;
  within = are.within;
  same = subst (λ (ds : List Definition). AreSame (names_from events k (names_shown names) ds) (names_of events lets)) (drop_all k lets all) are.same;
}
