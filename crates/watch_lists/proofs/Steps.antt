-- One place of a chain: what holds while the chain is gone through is kept.
use Rattle.std.proofs.Common.{◌≡◌, ◌≢◌, ℕ, zero, suc, ◌<◌, ◌≤◌, ◌⊎◌, inl, inr, Bool, true, false, List, [], ◌∷◌, ◌++◌, length, get_or, set, take, slice_get, Some, refl, ap, sym, ◌∙◌, subst, arith}
use Rattle.std.specs.List.{Contains}
use Rattle.std.proofs.lemmas.Bool.{cases_eq}
use Rattle.std.proofs.lemmas.List.{take-append-le}
use Rattle.std.proofs.lemmas.List.Elements.{All-contains, Contains-push, Contains-append_left}
use Rattle.std.proofs.lemmas.Option.{slice_get_within, same_Some}
use Rattle.clause_store.specs.declared.Lit.{Lit}
use Rattle.clause_store.specs.Clauses.{InVars, negated}
use Rattle.clause_store.proofs.GeneralLists.{Contains-head, Contains-head_is, Contains-tail, Contains-nil, Contains-cons_cases}
use Rattle.trail_core.specs.Course.{Entry, Course, Holds, Fails, HasNoValue, extended}
use Rattle.trail_core.proofs.GeneralTrails.{not-both, IsCourse-push}
use Rattle.watch_lists.specs.Watching.{Watch}
use Rattle.watch_lists.specs.Links.{In, Moves}
use Rattle.watch_lists.specs.Watching.{IsWatch, IsGuarded}
use Rattle.watch_lists.specs.Going.{code, here, other, moved, place, IsChained, IsGoing}
use Rattle.watch_lists.proofs.Basics.{get-set, get-set-same, get-set-other, contains-set, first-parts, place-inj, code-inj, code-not0, code-lt}
use Rattle.trail_core.proofs.GeneralPlaces.{contains-get}

Holds-push : (es : List Entry) (e : Entry) (l : Lit) → Holds es l → Holds (es ++ e ∷ []) l
Holds-push es e l h = (h.0, Contains-append_left es (e ∷ []) h.0 h.1, h.2)

other-side : (b c : Bool) → c ≢ b → (w : Watch) (m : Lit) → here (moved w b m) c ≡ here w c
other-side true true ne w m = absurd (ne refl)
other-side false false ne w m = absurd (ne refl)
other-side true false ne w m = refl
other-side false true ne w m = refl

this-side : (b : Bool) (w : Watch) (m : Lit) → here (moved w b m) b ≡ m
this-side true w m = refl
this-side false w m = refl

-- sides of a watch
pub watch-here : (clauses : List (List Lit)) (w : Watch) (b : Bool) (k : IsWatch clauses w) → Contains k.0 (here w b)
watch-here clauses w true k = k.3
watch-here clauses w false k = k.2

pub watch-other : (clauses : List (List Lit)) (w : Watch) (b : Bool) (k : IsWatch clauses w) → Contains k.0 (other w b)
watch-other clauses w true k = k.2
watch-other clauses w false k = k.3

pub watch-two : (clauses : List (List Lit)) (w : Watch) (b c : Bool) → c ≢ b → IsWatch clauses w → here w b ≢ here w c
watch-two clauses w true true ne k = λ e. ne refl
watch-two clauses w false false ne k = λ e. ne refl
watch-two clauses w true false ne k = λ e. k.4 (sym e)
watch-two clauses w false true ne k = k.4

guarded-at : (t : Course) (w : Watch) (b : Bool) → IsGuarded t w.first w.second × IsGuarded t w.second w.first → IsGuarded t (other w b) (here w b)
guarded-at t w true h = h.0
guarded-at t w false h = h.1

guarded-moved : (t : Course) (w : Watch) (b : Bool) (m : Lit) → IsGuarded t m (other w b) → IsGuarded t (other w b) m → IsGuarded t (moved w b m).first (moved w b m).second × IsGuarded t (moved w b m).second (moved w b m).first
guarded-moved t w true m h k = (k, h)
guarded-moved t w false m h k = (h, k)

watch-moved : (clauses : List (List Lit)) (w : Watch) (b : Bool) (m : Lit) (clause : List Lit) → slice_get clauses w.clause ≡ Some clause → Contains clause m → Contains clause (other w b) → m ≢ other w b → IsWatch clauses (moved w b m)
watch-moved clauses w true m clause e cm co ne = (clause, e, co, cm, λ q. ne (sym q))
watch-moved clauses w false m clause e cm co ne = (clause, e, cm, co, ne)

cases_side : (c b : Bool) → (c ≡ b) ⊎ (c ≢ b)
cases_side true true = inl refl
cases_side false false = inl refl
cases_side true false = inr (λ e. cc)
cases_side false true = inr (λ e. cc)

pub Contains-take : (n : ℕ) (es : List Entry) (e : Entry) → Contains (take n es) e → Contains es e
Contains-take zero es e h = absurd (Contains-nil e h)
Contains-take (suc n) [] e h = absurd (Contains-nil e h)
Contains-take (suc n) (x ∷ xs) e h = elim (Contains-cons_cases x (take n xs) e h) [
  | inl same ↦ Contains-head_is x xs e same
  | inr later ↦ Contains-tail x xs e (Contains-take n xs e later)
]

-- a longer trail keeps watches in step
pub guarded-push : (t : Course) (level : ℕ) (e : Entry) (a b : Lit) → t.seen ≤ length t.entries → IsGuarded t a b → IsGuarded (extended t level e) a b
guarded-push t level e a b le h = λ x s q.
    let before : Contains (take t.seen t.entries) x = (let P : List Entry → Type 0 = λ es. Contains es x in subst P (take-append-le t.seen t.entries (e ∷ []) le) s) in
    let f = h x before q in
    (f.0, Contains-append_left t.entries (e ∷ []) f.0 f.1, f.2, f.3)

pub seen-in : (t : Course) (e : Entry) → Contains (take t.seen t.entries) e → Contains t.entries e
seen-in t e h = Contains-take t.seen t.entries e h

module _ (clauses : List (List Lit)) (t : Course) (list : List Watch) (all : List (List ℕ)) (l : Lit) (g : IsGoing clauses t list all l) (p : ℕ) (first : slice_get (get_or all 0 []) 0 ≡ Some p) where
  lit-in : l.var ≤ t.vars
  lit-in =
      let f = g.false_lit in
      let named : InVars t.vars f.0.lit = All-contains (λ (e : Entry). InVars t.vars e.lit) t.entries f.0 g.course.named f.1 in
      let q : f.0.lit.var ≡ l.var = ap (λ (k : Lit). k.var) f.2 in
      omega (arith, named.1, q)

  pub chain-lt : code l < length all
  chain-lt = omega (arith, g.room, code-lt l t.vars lit-in)

  place-in : In all 0 p
  place-in =
      let parts = first-parts (get_or all 0 []) p first in
      (omega (arith, g.room), rw parts.1 (Contains-head p parts.0))

  -- the place is that of a watch of the false literal
  pub at-place : (i : ℕ) × (b : Bool) × (w : Watch) × (slice_get list i ≡ Some w) × (p ≡ place i b) × (here w b ≡ l)
  at-place =
      let k = g.chained.only 0 p place-in in
      (k.0, k.1, k.2, k.3, k.4, elim k.5 [ inl e ↦ absurd (code-not0 (here k.2 k.1) e) | inr e ↦ code-inj (here k.2 k.1) l e.1 ])

  module _ (i : ℕ) (b : Bool) (w : Watch) (at : slice_get list i ≡ Some w) (pl : p ≡ place i b) (is : here w b ≡ l) where
    slot-lt : i < length list
    slot-lt = slice_get_within list i w at

    -- another side of a watch has another place
    same-place : (j : ℕ) (c : Bool) (v : Watch) → slice_get list j ≡ Some v → place j c ≡ p → (j ≡ i) × (c ≡ b) × (v ≡ w)
    same-place j c v e q =
        let k = place-inj j i c b (q ∙ pl) in
        let P : ℕ → Type 0 = λ n. slice_get list n ≡ Some v in
        (k.0, k.1, same_Some v w (sym (subst P k.0 e) ∙ at))

    -- (the place goes back to its own chain)
    module _ (all' : List (List ℕ)) (mv : Moves all all' p (code l)) (len : length all' ≡ length all) where
      chained-kept : IsChained (code l) all' list
      chained-kept = record {
        each = λ j c v e. elim (cases_eq (place j c) p) [
          | inl same ↦
              let k = same-place j c v e same in
              let lit-is : code (here v c) ≡ code l = (let P : Bool → Type 0 = λ d. here w d ≡ l in ap (λ (x : Watch). code (here x c)) k.2 ∙ ap code (subst P (sym k.1) is)) in
              (let P : ℕ → Type 0 = λ q. In all' (code l) q in
              let Q : ℕ → Type 0 = λ z. In all' z (place j c) in
              inl (subst Q (sym lit-is) (subst P (sym same) mv.arrived)))
          | inr apart ↦ elim (g.chained.each j c v e) [
            | inl own ↦ inl (mv.stays (code (here v c)) (place j c) apart own)
            | inr kept ↦ inr (kept.0, mv.stays 0 (place j c) apart kept.1)
          ]
        ];
        only = λ k q inn. elim (mv.into k q inn) [
          | inl now ↦ (i, b, w, at, now.0 ∙ pl, inl (now.1 ∙ ap code (sym is)))
          | inr old ↦ g.chained.only k q old.1
        ];
      }

      kept-kept : (es : List Entry) → ((m : Lit) → Holds t.entries m → Holds es m) → Holds es (other w b) → (j : ℕ) (c : Bool) (v : Watch) → slice_get list j ≡ Some v → In all' (code l) (place j c) → Holds es (other v c)
      kept-kept es more holds j c v e inn = elim (mv.into (code l) (place j c) inn) [
        | inl now ↦
            let k = same-place j c v e now.0 in
            let q : other v c ≡ other w b = ap (λ (x : Watch). other x c) k.2 ∙ ap (λ (d : Bool). other w d) k.1 in
            (let P : Lit → Type 0 = λ m. Holds es m in subst P (sym q) holds)
        | inr old ↦ more (other v c) (g.kept j c v e old.1)
      ]

      -- the other literal is true
      pub keep-true : Holds t.entries (other w b) → IsGoing clauses t list all' l
      keep-true holds = record {
        course = g.course;
        false_lit = g.false_lit;
        room = len ∙ g.room;
        named = g.named;
        watches = g.watches;
        in_step = g.in_step;
        chained = chained-kept;
        kept = kept-kept t.entries (λ m h. h) holds;
      }

      -- the other literal is implied
      pub keep-implied : (r : ℕ) → InVars t.vars (other w b) → HasNoValue t.entries (other w b).var → IsGoing clauses (extended t t.level (record { lit = other w b; level = t.level; reason = Some r })) list all' l
      keep-implied r there free =
          let e : Entry = record { lit = other w b; level = t.level; reason = Some r } in
          record {
            course = IsCourse-push t e g.course there free refl;
            false_lit = Holds-push t.entries e (negated l) g.false_lit;
            room = len ∙ g.room;
            named = g.named;
            watches = g.watches;
            in_step = λ v c. (guarded-push t t.level e v.first v.second g.course.seen_in (g.in_step v c).0, guarded-push t t.level e v.second v.first g.course.seen_in (g.in_step v c).1);
            chained = chained-kept;
            kept = kept-kept (t.entries ++ e ∷ []) (λ m h. Holds-push t.entries e m h) (e, Contains-push t.entries e, refl);
          }

    -- (the place goes to the chain of another literal)
    module _ (m : Lit) (all' : List (List ℕ)) (mv : Moves all all' p (code m)) (len : length all' ≡ length all) where
      pub chained-moved : IsChained (code l) all' (set list i (moved w b m))
      chained-moved = record {
        each = λ j c v e. elim (get-set list i j (moved w b m) v slot-lt e) [
          | inl this ↦ elim (cases_side c b) [
            | inl side ↦
                let lit-is : here v c ≡ m = ap (λ (x : Watch). here x c) this.1 ∙ ap (λ (d : Bool). here (moved w b m) d) side ∙ this-side b w m in
                let pl-is : place j c ≡ p = ap (λ (n : ℕ). place n c) this.0 ∙ ap (λ (d : Bool). place i d) side ∙ sym pl in
                (let P : Lit → Type 0 = λ x. In all' (code x) (place j c) ⊎ ((code x ≡ code l) × In all' 0 (place j c)) in
                let Q : ℕ → Type 0 = λ q. In all' (code m) q in
                subst P (sym lit-is) (inl (subst Q (sym pl-is) mv.arrived)))
            | inr ne ↦
                let lit-is : here v c ≡ here w c = ap (λ (x : Watch). here x c) this.1 ∙ other-side b c ne w m in
                let apart : place j c ≢ p = (λ q. ne (place-inj j i c b (q ∙ pl)).1) in
                let P : Lit → Type 0 = λ x. In all' (code x) (place j c) ⊎ ((code x ≡ code l) × In all' 0 (place j c)) in
                let Q : ℕ → Type 0 = λ n. slice_get list n ≡ Some w in
                subst P (sym lit-is) (elim (g.chained.each j c w (subst Q (sym this.0) at)) [
                  | inl own ↦ inl (mv.stays (code (here w c)) (place j c) apart own)
                  | inr kept ↦ inr (kept.0, mv.stays 0 (place j c) apart kept.1)
                ])
          ]
          | inr old ↦
              let apart : place j c ≢ p = (λ q. old.0 (place-inj j i c b (q ∙ pl)).0) in
              elim (g.chained.each j c v old.1) [
                | inl own ↦ inl (mv.stays (code (here v c)) (place j c) apart own)
                | inr kept ↦ inr (kept.0, mv.stays 0 (place j c) apart kept.1)
              ]
        ];
        only = λ k q inn. elim (mv.into k q inn) [
          | inl now ↦ (i, b, moved w b m, get-set-same list i (moved w b m) slot-lt, now.0 ∙ pl, inl (now.1 ∙ ap code (sym (this-side b w m))))
          | inr old ↦ still k q old.0 (g.chained.only k q old.1)
        ];
      }
        where
          still : (k q : ℕ) → q ≢ p → ((j : ℕ) × (c : Bool) × (v : Watch) × (slice_get list j ≡ Some v) × (q ≡ place j c) × ((k ≡ code (here v c)) ⊎ ((k ≡ 0) × (code (here v c) ≡ code l)))) → (j : ℕ) × (c : Bool) × (v : Watch) × (slice_get (set list i (moved w b m)) j ≡ Some v) × (q ≡ place j c) × ((k ≡ code (here v c)) ⊎ ((k ≡ 0) × (code (here v c) ≡ code l)))
          still k q apart h = elim (cases_eq h.0 i) [
            | inl same ↦
                let P : ℕ → Type 0 = λ n. slice_get list n ≡ Some h.2 in
                let v-is : h.2 ≡ w = same_Some h.2 w (sym (subst P same h.3) ∙ at) in
                let ne : h.1 ≢ b = (λ e. apart (h.4 ∙ ap (λ (n : ℕ). place n h.1) same ∙ ap (λ (d : Bool). place i d) e ∙ sym pl)) in
                let lit-is : here h.2 h.1 ≡ here (moved w b m) h.1 = ap (λ (x : Watch). here x h.1) v-is ∙ sym (other-side b h.1 ne w m) in
                let Q : Lit → Type 0 = λ x. (k ≡ code x) ⊎ ((k ≡ 0) × (code x ≡ code l)) in
                (i, h.1, moved w b m, get-set-same list i (moved w b m) slot-lt, h.4 ∙ ap (λ (n : ℕ). place n h.1) same, subst Q lit-is h.5)
            | inr other' ↦ (h.0, h.1, h.2, get-set-other list i h.0 (moved w b m) other' ∙ h.3, h.4, h.5)
          ]

      -- another literal that isn't false is watched
      pub move-on : (clause : List Lit) → slice_get clauses w.clause ≡ Some clause → Contains clause m → m ≢ other w b → (Fails t.entries m → ⊥) → IsGoing clauses t (set list i (moved w b m)) all' l
      move-on clause cl has ne free = record {
        course = g.course;
        false_lit = g.false_lit;
        room = len ∙ g.room;
        named = g.named;
        watches = λ v c. elim (contains-set list i (moved w b m) v slot-lt c) [
          | inl e ↦ (let P : Watch → Type 0 = λ x. IsWatch clauses x in subst P (sym e) (watch-moved clauses w b m clause cl has other-has ne))
          | inr old ↦ g.watches v old
        ];
        in_step = λ v c. elim (contains-set list i (moved w b m) v slot-lt c) [
          | inl e ↦ (let P : Watch → Type 0 = λ x. IsGuarded t x.first x.second × IsGuarded t x.second x.first in subst P (sym e)
              (guarded-moved t w b m
              (λ x s q. absurd (free (x, seen-in t x s, q)))
              (λ x s q.
              let f = guarded-at t w b (g.in_step w (contains-get list i w at)) x s q in
              absurd (not-both t.entries l g.course.once (f.0, f.1, f.2 ∙ is) g.false_lit))))
          | inr old ↦ g.in_step v old
        ];
        chained = chained-moved;
        kept = λ j c v e inn. elim (mv.into (code l) (place j c) inn) [
          | inl now ↦ absurd (free (let P : Lit → Type 0 = λ x. Fails t.entries x in subst P (code-inj l m now.1) g.false_lit))
          | inr old ↦ elim (get-set list i j (moved w b m) v slot-lt e) [
            | inl this ↦ absurd (not-kept j c this.0 old.0 old.1)
            | inr there ↦ g.kept j c v there.1 old.1
          ]
        ];
      }
        where
          k : IsWatch clauses w
          k = g.watches w (contains-get list i w at)

          other-has : Contains clause (other w b)
          other-has =
              let same : k.0 ≡ clause = same_Some k.0 clause (sym k.1 ∙ cl) in
              let P : List Lit → Type 0 = λ xs. Contains xs (other w b) in subst P same (watch-other clauses w b k)

          -- the other side of this watch isn't in the literal's chain
          not-kept : (j : ℕ) (c : Bool) → j ≡ i → place j c ≢ p → In all (code l) (place j c) → ⊥
          not-kept j c same apart inn =
              let h = g.chained.only (code l) (place j c) inn in
              let q = place-inj j h.0 c h.1 h.4 in
              let ne : h.1 ≢ b = (λ e. apart (ap (λ (n : ℕ). place n c) same ∙ ap (λ (d : Bool). place i d) (q.1 ∙ e) ∙ sym pl)) in
              let P : ℕ → Type 0 = λ n. slice_get list n ≡ Some h.2 in
              let v-is : h.2 ≡ w = same_Some h.2 w (sym (subst P (sym q.0 ∙ same) h.3) ∙ at) in
              elim h.5 [
                | inl e ↦
                    let lit-is : here w h.1 ≡ l = ap (λ (x : Watch). here x h.1) (sym v-is) ∙ sym (code-inj l (here h.2 h.1) e) in
                    watch-two clauses w b h.1 ne k (is ∙ sym lit-is)
                | inr e ↦ code-not0 l (sym e.0)
              ]

  -- what is read at the place
  pub at-read : (i : ℕ) (b : Bool) → p ≡ place i b → (w : Watch) × (slice_get list i ≡ Some w) × (here w b ≡ l)
  at-read i b pl =
      let k = at-place in
      let q = place-inj k.0 i k.1 b (sym k.4 ∙ pl) in
      let P : ℕ → Type 0 = λ n. slice_get list n ≡ Some k.2 in
      let Q : Bool → Type 0 = λ d. here k.2 d ≡ l in
      (k.2, subst P q.0 k.3, subst Q q.1 k.5)
