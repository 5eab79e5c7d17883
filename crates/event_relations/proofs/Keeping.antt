-- The pairs that `keep` lines keep, line after line.
use Rattle.std.proofs.Common.{◌≡◌, ◌↔◌, ◌⊎◌, ℕ, zero, suc, ◌+◌, ◌<◌, ◌≤◌, inl, inr, true, List, [], ◌∷◌, ◌++◌, length, All, get_or, Contains, Some, slice_get, refl, sym, ◌∙◌, ap, subst, arith}
use Rattle.std.proofs.lemmas.Bool.{cases_eq}
use Rattle.std.proofs.lemmas.Option.{slice_get_within, slice_get-get_or}
use Rattle.std.proofs.lemmas.List.{length_push}
use Rattle.fer_events.specs.declared.event.Event.{Event}
use Rattle.fer_events.specs.Pairs.{PairList, has_pair}
use Rattle.fer_events.specs.Orders.{AreForward}
use Rattle.fer_events.proofs.PairLaws.{has_self, has_only}
use Rattle.model_reader.specs.declared.expr.Expr.{Expr}
use Rattle.model_reader.specs.declared.model.Model.{Model}
use Rattle.event_relations.specs.Meaning.{Names, Means, names_of}
use Rattle.event_relations.specs.Kept.{IsKept, IsKeptBy}
use Rattle.event_relations.specs.Showing.{Shows, names_shown, NamesWithin, AreNames, GetsKept}
use Rattle.event_relations.proofs.Within.{means_within, kept_within}
use Rattle.event_relations.proofs.Growing.{means_more}
use Rattle.event_relations.proofs.Forwarding.{IsForward}
use Rattle.event_relations.proofs.Naming.{shown_is}

get_or_same : {X : Type 0} → (xs : List X) (k : ℕ) (d e : X) → k < length xs → get_or xs k e ≡ get_or xs k d
get_or_same [] k d e there = absurd (omega (arith, there))
get_or_same (x ∷ xs) zero d e there = refl
get_or_same (x ∷ xs) (suc k) d e there = get_or_same xs k d e (omega (arith, there))

-- rows that show what an expression relates give its pairs
pub forward_kept :
    (events : List Event) (names : Names) (x : Expr) (rows : List ℕ) (old now : PairList) → NamesWithin events names → old.n ≡ length events
    → Shows rows (Means events names x)
    → ((a b : ℕ) → (has_pair now.pairs a b ≡ true) ↔ ((has_pair old.pairs a b ≡ true) ⊎ IsForward old.n rows a b))
    → GetsKept events names x old now
forward_kept events names x rows old now ok n shows puts a b =
    let same = shown_is events rows (Means events names x) shows (means_within events names ok x) in (
      λ h. elim ((puts a b).0 h) [ inl o ↦ inl o | inr f ↦ inr (f.0, (same a b).0 f.2) ],
      λ h. (puts a b).1 (elim h [
        | inl o ↦ inl o
        | inr f ↦ inr (f.0, (let inside = means_within events names ok x a b f.1 in omega (arith, inside.second.1, n)), (same a b).1 f.1)
      ]),
    )

-- the pairs are those of the first k lines
pub record HasLinesTo (model : Model) (events : List Event) (k : ℕ) (now : PairList) : Type 0 where
  pub n : now.n ≡ length events
  pub pairs : (a b : ℕ) → (has_pair now.pairs a b ≡ true) ↔ ((i : ℕ) × (i < k) × IsKeptBy model events i a b)

pub lines_begun : (model : Model) (events : List Event) (now : PairList) → now ≡ record { n = length events; pairs = [] } → HasLinesTo model events 0 now
lines_begun model events now is = record {
  n = ap (λ (p : PairList). p.n) is;
  pairs = λ a b. (
    λ h. let nothing : has_pair [] a b ≡ true = subst (λ (p : PairList). has_pair p.pairs a b ≡ true) is h in absurd (cc),
    λ h. absurd (omega (arith, h.1)),
  );
}

same_line : (x y : Expr) → Some x ≡ Some y → x ≡ y
same_line x y is = cc

pub lines_more :
    (model : Model) (events : List Event) (k : ℕ) (x : Expr) (names : List (List ℕ)) (now new : PairList) → slice_get model.keeps k ≡ Some x
    → AreNames events model.lets names → HasLinesTo model events k now → new.n ≡ now.n → GetsKept events (names_shown names) x now new
    → HasLinesTo model events (k + 1) new
lines_more model events k x names now new at are is n gets =
    let meant = names_of events model.lets in
    let into : (a b : ℕ) → Means events (names_shown names) x a b → Means events meant x a b = means_more events (names_shown names) meant (λ i c d. (are.same i c d).0) x in
    let back : (a b : ℕ) → Means events meant x a b → Means events (names_shown names) x a b = means_more events meant (names_shown names) (λ i c d. (are.same i c d).1) x in
    record {
      n = n ∙ is.n;
      pairs = λ a b. (
        λ h. elim ((gets a b).0 h) [
          | inl o ↦ let line = (is.pairs a b).0 o in (line.0, omega (arith, line.1), line.2)
          | inr f ↦ (k, omega arith, (x, at, f.0, into a b f.1))
        ],
        λ (i, low, (y, there, before, means)). (gets a b).1 (elim (cases_eq i k) [
          | inl last ↦
              let same : y ≡ x = same_line y x (sym (subst (λ (j : ℕ). slice_get model.keeps j ≡ Some y) last there) ∙ at) in
              inr (before, back a b (subst (λ (z : Expr). Means events meant z a b) same means))
          | inr apart ↦ inl ((is.pairs a b).1 (i, omega (arith, low, apart), (y, there, before, means)))
        ]),
      );
    }

pub lines_exactly :
    (model : Model) (events : List Event) (k : ℕ) (now : PairList) → HasLinesTo model events k now → length model.keeps ≤ k
    → (a b : ℕ) → Contains now.pairs (a, b) ↔ IsKept model events a b
lines_exactly model events k now is all a b = (
  λ h. let line = (is.pairs a b).0 (has_self now.pairs (a, b) h) in (line.0, line.2),
  λ (i, (x, there, before, means)). has_only now.pairs a b ((is.pairs a b).1 (i, (let low = slice_get_within model.keeps i x there in omega (arith, low, all)), (x, there, before, means))),
)

pub lines_forward :
    (model : Model) (events : List Event) (k : ℕ) (now : PairList) → HasLinesTo model events k now → AreForward (length events) now.pairs
lines_forward model events k now is j p there =
    let q : ℕ × ℕ = get_or now.pairs j p in
    let line = (is.pairs q.0 q.1).0 (has_self now.pairs q (j, there, get_or_same now.pairs j p q there)) in
    kept_within model events q.0 q.1 (line.0, line.2)

-- the pairs are those that line i keeps
pub record IsLine (model : Model) (events : List Event) (i : ℕ) (pairs : PairList) : Type 0 where
  pub n : pairs.n ≡ length events
  pub exactly : (a b : ℕ) → Contains pairs.pairs (a, b) ↔ IsKeptBy model events i a b

pub line_kept :
    (model : Model) (events : List Event) (k : ℕ) (x : Expr) (names : List (List ℕ)) (old new : PairList) → slice_get model.keeps k ≡ Some x
    → AreNames events model.lets names → old ≡ record { n = length events; pairs = [] } → new.n ≡ old.n → GetsKept events (names_shown names) x old new
    → IsLine model events k new
line_kept model events k x names old new at are empty n gets =
    let meant = names_of events model.lets in
    let into : (a b : ℕ) → Means events (names_shown names) x a b → Means events meant x a b = means_more events (names_shown names) meant (λ i c d. (are.same i c d).0) x in
    let back : (a b : ℕ) → Means events meant x a b → Means events (names_shown names) x a b = means_more events meant (names_shown names) (λ i c d. (are.same i c d).1) x in
    let none : (a b : ℕ) → has_pair old.pairs a b ≡ true → ⊥ =
    λ a b h. let nothing : has_pair [] a b ≡ true = subst (λ (p : PairList). has_pair p.pairs a b ≡ true) empty h in absurd (cc) in
    record {
      n = n ∙ ap (λ (p : PairList). p.n) empty;
      exactly = λ a b. (
        λ h. elim ((gets a b).0 (has_self new.pairs (a, b) h)) [ inl o ↦ absurd (none a b o) | inr f ↦ (x, at, f.0, into a b f.1) ],
        λ (y, there, before, means).
            let same : y ≡ x = same_line y x (sym there ∙ at) in
            has_only new.pairs a b ((gets a b).1 (inr (before, back a b (subst (λ (z : Expr). Means events meant z a b) same means)))),
      );
    }

-- the pairs of the first k lines, line by line
pub record HasEachTo (model : Model) (events : List Event) (k : ℕ) (lines : List PairList) : Type 0 where
  pub count : length lines ≡ k
  pub each : (i : ℕ) (pairs : PairList) → slice_get lines i ≡ Some pairs → IsLine model events i pairs

pub each_begun : (model : Model) (events : List Event) (lines : List PairList) → lines ≡ [] → HasEachTo model events 0 lines
each_begun model events lines is = record {
  count = ap length is;
  each = λ i pairs at. let nothing : slice_get [] i ≡ Some pairs = subst (λ (ls : List PairList). slice_get ls i ≡ Some pairs) is at in absurd (omega (arith, slice_get_within [] i pairs nothing));
}

each_push :
    (P : ℕ → PairList → Type 0) (lines : List PairList) (p : PairList) → ((i : ℕ) (q : PairList) → slice_get lines i ≡ Some q → P i q) → P (length lines) p
    → (i : ℕ) (q : PairList) → slice_get (lines ++ p ∷ []) i ≡ Some q → P i q
each_push P [] p each last zero q is = let same : p ≡ q = cc in subst (λ (r : PairList). P 0 r) same last
each_push P [] p each last (suc i) q is = absurd (omega (arith, slice_get_within [] i q is))
each_push P (l ∷ ls) p each last zero q is = each 0 q is
each_push P (l ∷ ls) p each last (suc i) q is = each_push (λ j r. P (suc j) r) ls p (λ j r h. each (suc j) r h) last i q is

pub each_more :
    (model : Model) (events : List Event) (k : ℕ) (lines : List PairList) (new : PairList) → HasEachTo model events k lines → IsLine model events k new
    → HasEachTo model events (k + 1) (lines ++ new ∷ [])
each_more model events k lines new is line = record {
  count = length_push lines new ∙ ap (λ (n : ℕ). n + 1) is.count;
  each = each_push (λ i pairs. IsLine model events i pairs) lines new is.each (subst (λ (i : ℕ). IsLine model events i new) (sym is.count) line);
}

pub each_forward :
    (model : Model) (events : List Event) (k : ℕ) (lines : List PairList) → HasEachTo model events k lines → All (λ pairs. AreForward (length events) pairs.pairs) lines
each_forward model events k lines is i d there j p inside =
    let line = get_or lines i d in
    let are = is.each i line (slice_get-get_or lines i d there) in
    let q : ℕ × ℕ = get_or line.pairs j p in
    kept_within model events q.0 q.1 (i, (are.exactly q.0 q.1).0 (j, inside, get_or_same line.pairs j p q inside))

pub each_n : (model : Model) (events : List Event) (k : ℕ) (lines : List PairList) → HasEachTo model events k lines → All (λ pairs. pairs.n ≡ length events) lines
each_n model events k lines is i d there = (is.each i (get_or lines i d) (slice_get-get_or lines i d there)).n
