-- A whole chain.
use Rattle.std.proofs.Common.{◌≡◌, ◌≢◌, ℕ, ◌+◌, ◌*◌, ◌<◌, inl, inr, Bool, List, [], ◌∷◌, length, get_or, set, slice_get, Some, None, refl, ap, sym, ◌∙◌, subst, arith, length-set, get_or-set_other, get_or-set_same}
use Rattle.std.specs.List.{Contains}
use Rattle.std.proofs.lemmas.List.Elements.{All-contains}
use Rattle.clause_store.specs.Clauses.{InVars}
use Rattle.std.proofs.lemmas.Bool.{cases_eq}
use Rattle.std.proofs.lemmas.Option.{same_Some}
use Rattle.clause_store.specs.declared.Lit.{Lit}
use Rattle.clause_store.proofs.GeneralLists.{Contains-nil}
use Rattle.trail_core.specs.Course.{Entry, Course, IsCourse, Fails}
use Rattle.watch_lists.specs.Watching.{Watch}
use Rattle.watch_lists.specs.Links.{In, Moves, Chained, exchanged}
use Rattle.watch_lists.specs.Propagated.{Grows, Advances}
use Rattle.watch_lists.specs.Propagated.Grows.{none, more}
use Rattle.watch_lists.specs.Going.{code, here, place, IsChained, AreChained, IsGoing, IsReady, IsUnderway, IsPrepared, AreAnswered, watches_of}
use Rattle.watch_lists.proofs.Basics.{place-inj, code-not0, code-lt}
use Rattle.trail_core.proofs.GeneralPlaces.{get-contained}

pub Grows-trans : (clauses : List (List Lit)) (ns : List ℕ) (level : ℕ) (a b d : List Entry) → Grows clauses ns level a b → Grows clauses ns level b d → Grows clauses ns level a d
Grows-trans clauses ns level a b d g none = g
Grows-trans clauses ns level a b d g (more to e h f) = more to e (Grows-trans clauses ns level a b to g h) f

pub Advances-trans : (clauses : List (List Lit)) (ns ms : List ℕ) (t u v : Course) → ms ≡ ns → Advances clauses ns t u → Advances clauses ms u v → Advances clauses ns t v
Advances-trans clauses ns ms t u v same g h =
    let P : List ℕ → Type 0 = λ xs. Advances clauses xs u v in
    let k = subst P same h in
    let Q : ℕ → Type 0 = λ n. Grows clauses ns n u.entries v.entries in
    record {
      vars = h.vars ∙ g.vars;
      level = h.level ∙ g.level;
      grows = Grows-trans clauses ns t.level t.entries u.entries v.entries g.grows (subst Q g.level k.grows);
    }

-- a chain whose first place isn't there is empty
pub no-first : (ys : List ℕ) → slice_get ys 0 ≡ None → ys ≡ []
no-first [] e = refl
no-first (y ∷ ys) e = cc

-- the two lists in each other's place
module _ (all : List (List ℕ)) (b : ℕ) (zero-in : 0 < length all) (b-in : b < length all) (ne : b ≢ 0) where
  at-b : get_or (exchanged 0 b all) b [] ≡ get_or all 0 []
  at-b = let lt : b < length (set all 0 (get_or all b [])) = rw length-set b-in in rw get_or-set_same refl

  at-0 : get_or (exchanged 0 b all) 0 [] ≡ get_or all b []
  at-0 =
      let apart : 0 ≢ b = (λ e. ne (sym e)) in
      let lt : 0 < length all = zero-in in
      rw (get_or-set_other, get_or-set_same) refl

  at-other : (k : ℕ) → k ≢ 0 → k ≢ b → get_or (exchanged 0 b all) k [] ≡ get_or all k []
  at-other k n0 nb = rw (get_or-set_other, get_or-set_other) refl

  same-len : length (exchanged 0 b all) ≡ length all
  same-len = rw (length-set, length-set) refl

  pub to-0 : (y : ℕ) → In all b y → In (exchanged 0 b all) 0 y
  to-0 y i = (omega (arith, same-len, zero-in), rw at-0 i.1)

  pub to-other : (k y : ℕ) → k ≢ 0 → k ≢ b → In all k y → In (exchanged 0 b all) k y
  to-other k y n0 nb i = (omega (arith, same-len, i.0), rw (at-other k n0 nb) i.1)

  pub from-0 : (y : ℕ) → In (exchanged 0 b all) 0 y → In all b y
  from-0 y i = (b-in, let P : List ℕ → Type 0 = λ xs. Contains xs y in subst P at-0 i.1)

  pub from-b : (y : ℕ) → In (exchanged 0 b all) b y → In all 0 y
  from-b y i = (zero-in, let P : List ℕ → Type 0 = λ xs. Contains xs y in subst P at-b i.1)

  pub from-other : (k y : ℕ) → k ≢ 0 → k ≢ b → In (exchanged 0 b all) k y → In all k y
  from-other k y n0 nb i = (omega (arith, same-len, i.0), let P : List ℕ → Type 0 = λ xs. Contains xs y in subst P (at-other k n0 nb) i.1)

pub going-from-ready : (clauses : List (List Lit)) (t : Course) (list : List Watch) (all all' : List (List ℕ)) (l : Lit) → IsReady clauses t list all → Fails t.entries l → code l < length all → all' ≡ exchanged 0 (code l) all → IsGoing clauses t list all' l
going-from-ready clauses t list all all' l r f b-in e =
    let P : List (List ℕ) → Type 0 = λ xs. IsGoing clauses t list xs l in
    subst P (sym e) (record {
      course = r.course;
      false_lit = f;
      room = same-len all (code l) zero-in b-in ne ∙ r.room;
      named = r.named;
      watches = r.watches;
      in_step = r.in_step;
      chained = record {
        each = λ i b w at. elim (cases_eq (code (here w b)) (code l)) [
          | inl same ↦
              let Q : ℕ → Type 0 = λ k. In all k (place i b) in
              inr (same, to-0 all (code l) zero-in b-in ne (place i b) (subst Q same (r.chained.each i b w at)))
          | inr apart ↦ inl (to-other all (code l) zero-in b-in ne (code (here w b)) (place i b) (λ q. code-not0 (here w b) (sym q)) apart (r.chained.each i b w at))
        ];
        only = λ k p inn. elim (cases_eq k 0) [
          | inl z ↦
              let Q : ℕ → Type 0 = λ j. In (exchanged 0 (code l) all) j p in
              let h = r.chained.only (code l) p (from-0 all (code l) zero-in b-in ne p (subst Q z inn)) in
              (h.0, h.1, h.2, h.3, h.4, inr (z, sym h.5))
          | inr n0 ↦ elim (cases_eq k (code l)) [
            | inl same ↦
                let Q : ℕ → Type 0 = λ j. In (exchanged 0 (code l) all) j p in
                absurd (empty p (from-b all (code l) zero-in b-in ne p (subst Q same inn)))
            | inr nb ↦
                let h = r.chained.only k p (from-other all (code l) zero-in b-in ne k p n0 nb inn) in
                (h.0, h.1, h.2, h.3, h.4, inl h.5)
          ]
        ];
      };
      kept = λ i b w at inn. absurd (empty (place i b) (from-b all (code l) zero-in b-in ne (place i b) inn));
    })
  where
    zero-in : 0 < length all
    zero-in = omega (arith, r.room)

    ne : code l ≢ 0
    ne = λ q. code-not0 l (sym q)

    empty : (p : ℕ) → In all 0 p → ⊥
    empty p i = let h = r.chained.only 0 p i in code-not0 (here h.2 h.1) h.5

pub answered : (clauses : List (List Lit)) (t : Course) (list : List Watch) (all : List (List ℕ)) (l : Lit) → IsGoing clauses t list all l → get_or all 0 [] ≡ [] → AreAnswered t.entries list l
answered clauses t list all l g empty w b has is =
    let at = get-contained list w has in
    elim (g.chained.each at.0 b w at.1) [
      | inl own ↦ g.kept at.0 b w at.1 (let P : Lit → Type 0 = λ m. In all (code m) (place at.0 b) in subst P is own)
      | inr still ↦ absurd (Contains-nil (place at.0 b) (let Q : List ℕ → Type 0 = λ ys. Contains ys (place at.0 b) in subst Q empty still.1.1))
    ]

pub lit-chain : (t : Course) (all : List (List ℕ)) (l : Lit) → IsCourse t → length all ≡ 2 * t.vars + 3 → Fails t.entries l → code l < length all
lit-chain t all l k room f =
    let there : InVars t.vars f.0.lit = All-contains (λ (e : Entry). InVars t.vars e.lit) t.entries f.0 k.named f.1 in
    let same : f.0.lit.var ≡ l.var = ap (λ (x : Lit). x.var) f.2 in
    omega (arith, room, code-lt l t.vars (omega (arith, there.1, same)))

-- the first place of the chain 0 goes back
pub chained-back : (h : ℕ) (all all' : List (List ℕ)) (list : List Watch) (p : ℕ) → In all 0 p → Moves all all' p h → IsChained h all list → IsChained h all' list
chained-back h all all' list p in0 mv ch = record {
  each = λ j c v e. elim (cases_eq (place j c) p) [
    | inl same ↦
        let o = ch.only 0 p in0 in
        let q = place-inj j o.0 c o.1 (same ∙ o.4) in
        let P : ℕ → Type 0 = λ n. slice_get list n ≡ Some o.2 in
        let v-is : v ≡ o.2 = same_Some v o.2 (sym e ∙ subst P (sym q.0) o.3) in
        let is-h : code (here o.2 o.1) ≡ h = elim o.5 [ inl z ↦ absurd (code-not0 (here o.2 o.1) z) | inr z ↦ z.1 ] in
        let lit-is : code (here v c) ≡ h = ap (λ (x : Watch). code (here x c)) v-is ∙ ap (λ (d : Bool). code (here o.2 d)) q.1 ∙ is-h in
        let Q : ℕ → Type 0 = λ k. In all' k (place j c) in
        let R : ℕ → Type 0 = λ y. In all' h y in
        inl (subst Q (sym lit-is) (subst R (sym same) mv.arrived))
    | inr apart ↦ elim (ch.each j c v e) [
      | inl own ↦ inl (mv.stays (code (here v c)) (place j c) apart own)
      | inr kept ↦ inr (kept.0, mv.stays 0 (place j c) apart kept.1)
    ]
  ];
  only = λ k q inn. elim (mv.into k q inn) [
    | inl now ↦
        let o = ch.only 0 p in0 in
        let is-h : code (here o.2 o.1) ≡ h = elim o.5 [ inl z ↦ absurd (code-not0 (here o.2 o.1) z) | inr z ↦ z.1 ] in
        (o.0, o.1, o.2, o.3, now.0 ∙ o.4, inl (now.1 ∙ sym is-h))
    | inr old ↦ ch.only k q old.1
  ];
}

pub chained-rest : (h : ℕ) (all : List (List ℕ)) (list : List Watch) → get_or all 0 [] ≡ [] → IsChained h all list → AreChained all list
chained-rest h all list empty ch = record {
  each = λ i b w e. elim (ch.each i b w e) [
    | inl own ↦ own
    | inr kept ↦ absurd (none-in (place i b) kept.1)
  ];
  only = λ k p inn.
      let o = ch.only k p inn in (
        o.0,
        o.1,
        o.2,
        o.3,
        o.4,
        elim o.5 [
          | inl e ↦ e
          | inr z ↦ absurd (none-in p (let P : ℕ → Type 0 = λ n. In all n p in subst P z.0 inn))
        ],
      );
}
  where
    none-in : (p : ℕ) → In all 0 p → ⊥
    none-in p inn = Contains-nil p (let Q : List ℕ → Type 0 = λ ys. Contains ys p in subst Q empty inn.1)

-- the same of watches as they are kept
pub underway : (clauses : List (List Lit)) (t : Course) (ids : List ℕ) (ch ch' : Chained) (l : Lit) → IsPrepared clauses t ids ch → Fails t.entries l → code l < length ch.lists → ch' ≡ record ch { lists = exchanged 0 (code l) ch.lists } → IsUnderway clauses t ids ch' l
underway clauses t ids ch ch' l r f b-in e =
    let P : Chained → Type 0 = λ x. IsUnderway clauses t ids x l in
    subst P (sym e) (record {
      pairs = r.pairs;
      going = going-from-ready clauses t (watches_of ids ch.lits) ch.lists (exchanged 0 (code l) ch.lists) l r.ready f b-in refl;
    })

pub prepared : (clauses : List (List Lit)) (t : Course) (ids : List ℕ) (ch ch' : Chained) (l : Lit) → IsUnderway clauses t ids ch l → ch'.lits ≡ ch.lits → length ch'.lists ≡ length ch.lists → ((list : List Watch) → IsChained (code l) ch.lists list → AreChained ch'.lists list) → IsPrepared clauses t ids ch'
prepared clauses t ids ch ch' l u same len back =
    let P : List Lit → Type 0 = λ ls. IsReady clauses t (watches_of ids ls) ch'.lists in
    record {
      pairs = ap (λ (ls : List Lit). length ls) same ∙ u.pairs;
      ready = subst P (sym same) (record {
        course = u.going.course;
        room = len ∙ u.going.room;
        named = u.going.named;
        watches = u.going.watches;
        in_step = u.going.in_step;
        chained = back (watches_of ids ch.lits) u.going.chained;
      });
    }
