-- A clause that is attached.
use Rattle.std.proofs.Common.{◌≡◌, ℕ, ◌+◌, ◌*◌, ◌<◌, ◌++◌, ◌⊎◌, inl, inr, Bool, true, false, List, [], ◌∷◌, length, get_or, set, Result, Ok, Err, OnOk, ap, sym, ◌∙◌, subst, arith, length-set, get_or-set_other, get_or-set_same, length-append}
use Rattle.std.specs.List.{Contains}
use Rattle.clause_store.specs.declared.Lit.{Lit}
use Rattle.clause_store.specs.Clauses.{InVars}
use Rattle.watch_lists.proofs.Basics.{code-lt}
use Rattle.std.specs.Result.{is_err}
use Rattle.std.proofs.lemmas.Bool.{cases_eq}
use Rattle.clause_store.proofs.GeneralLists.{Contains-head, Contains-tail, Contains-cons_cases}
use Rattle.watch_lists.specs.Watching.{Watch, Watching}
use Rattle.trail_core.proofs.GeneralPlaces.{get-more, get-new, get-more-cases}
use Rattle.watch_lists.specs.Links.{In, Chained, pushed}
use Rattle.watch_lists.specs.Going.{code, here, place, watches_of, AreChained, AreHung}
use Rattle.watch_lists.proofs.Pairing.{length-of, one-more}

pub is-ok : {A E : Type 0} (r : Result A E) (P : Type 0) → is_err r ≡ false → OnOk r P → P
is-ok (Ok x) P e h = h
is-ok (Err x) P e h = cc

module _ (all : List (List ℕ)) (to x : ℕ) (lt : to < length all) where
  pub pushed-into : (k y : ℕ) → In (pushed to x all) k y → ((y ≡ x) × (k ≡ to)) ⊎ In all k y
  pushed-into k y i =
      let kt : k < length all = rw length-set at i.0 in
      elim (cases_eq k to) [
        | inl same ↦
            let lt' : to < length all = lt in
            let P : ℕ → Type 0 = λ j. Contains (get_or (set all to (x ∷ get_or all to [])) j []) y in
            let Q : ℕ → Type 0 = λ j. Contains (get_or all j []) y in
            let there : Contains (x ∷ get_or all to []) y = rw get_or-set_same at (subst P same i.1) in
            elim (Contains-cons_cases x (get_or all to []) y there) [
              | inl e ↦ inl (sym e, same)
              | inr later ↦ inr (kt, subst Q (sym same) later)
            ]
        | inr ne ↦ inr (kt, rw get_or-set_other at i.1)
      ]

  pub pushed-new : In (pushed to x all) to x
  pushed-new =
      let lt' : to < length all = lt in
      (rw length-set lt, rw get_or-set_same (Contains-head x (get_or all to [])))

  pub pushed-old : (k y : ℕ) → In all k y → In (pushed to x all) k y
  pushed-old k y i = (
    rw length-set i.0,
    elim (cases_eq k to) [
      | inl same ↦
          let lt' : to < length all = lt in
          let Q : ℕ → Type 0 = λ j. Contains (get_or all j []) y in
          rw (same, get_or-set_same) (Contains-tail x (get_or all to []) y (subst Q same i.1))
      | inr ne ↦ rw get_or-set_other i.1
    ],
  )

module _ (all : List (List ℕ)) (list : List Watch) (h : AreChained all list) where
  module _ (w : Watch) (n : ℕ) (ne : n ≡ length list) (k m : ℕ) (ke : k ≡ code w.first) (me : m ≡ code w.second) (kt : k < length all) (mt : m < length all) where
    one : List (List ℕ)
    one = pushed k (2 * n) all

    mt' : m < length (pushed k (2 * n) all)
    mt' = rw length-set mt

    old-in : (j x : ℕ) → In all j x → In (pushed m (2 * n + 1) (pushed k (2 * n) all)) j x
    old-in j x i = pushed-old (pushed k (2 * n) all) m (2 * n + 1) mt' j x (pushed-old all k (2 * n) kt j x i)

    pub chained-more : AreChained (pushed m (2 * n + 1) (pushed k (2 * n) all)) (list ++ w ∷ [])
    chained-more =
        record {
          each = λ i b v e. elim (get-more-cases list w i v e) [
            | inr new ↦
                let P : Watch → Type 0 = λ u. In (pushed m (2 * n + 1) (pushed k (2 * n) all)) (code (here u b)) (place i b) in
                let Q : ℕ → Type 0 = λ j. In (pushed m (2 * n + 1) (pushed k (2 * n) all)) (code (here w b)) (place j b) in
                subst P (sym new.1) (subst Q (ne ∙ sym new.0) (side b))
            | inl old ↦ old-in (code (here v b)) (place i b) (h.each i b v old)
          ];
          only = λ j x i. elim (pushed-into (pushed k (2 * n) all) m (2 * n + 1) mt' j x i) [
            | inl now ↦ (length list, true, w, get-new list w, now.0 ∙ ap (λ (z : ℕ). 2 * z + 1) ne, now.1 ∙ me)
            | inr before ↦ elim (pushed-into all k (2 * n) kt j x before) [
              | inl now ↦ (length list, false, w, get-new list w, now.0 ∙ ap (λ (z : ℕ). 2 * z) ne, now.1 ∙ ke)
              | inr old ↦
                  let o = h.only j x old in
                  (o.0, o.1, o.2, get-more list w o.0 o.2 o.3, o.4, o.5)
            ]
          ];
        }
      where
        side : (b : Bool) → In (pushed m (2 * n + 1) (pushed k (2 * n) all)) (code (here w b)) (place n b)
        side true =
            let P : ℕ → Type 0 = λ j. In (pushed m (2 * n + 1) (pushed k (2 * n) all)) j (2 * n + 1) in
            subst P me (pushed-new (pushed k (2 * n) all) m (2 * n + 1) mt')
        side false =
            let P : ℕ → Type 0 = λ j. In (pushed m (2 * n + 1) (pushed k (2 * n) all)) j (2 * n) in
            subst P ke (pushed-old (pushed k (2 * n) all) m (2 * n + 1) mt' k (2 * n) (pushed-new all k (2 * n) kt))

-- one clause more, as watches are kept
pub hung-more : (vars : ℕ) (ids ids' : List ℕ) (ch ch' : Chained) (id k m : ℕ) (a b : Lit) → AreHung vars ids ch → ids' ≡ ids ++ id ∷ [] → ch' ≡ record { lists = pushed m (length ch.lits + 1) (pushed k (length ch.lits) ch.lists); lits = ch.lits ++ a ∷ b ∷ [] } → k ≡ code a → m ≡ code b → k < length ch.lists → m < length ch.lists → AreHung vars ids' ch'
hung-more vars ids ids' ch ch' id k m a b h ie ce ke me kt mt =
    let P : List ℕ → Type 0 = λ ns. AreHung vars ns ch' in
    let Q : Chained → Type 0 = λ x. AreHung vars (ids ++ id ∷ []) x in
    let n : ℕ = length ids in
    let w : Watch = record { clause = id; first = a; second = b } in
    let len : length (watches_of ids ch.lits) ≡ n = length-of ids ch.lits h.pairs in
    let lists : AreChained (pushed m (2 * n + 1) (pushed k (2 * n) ch.lists)) (watches_of ids ch.lits ++ w ∷ []) =
    chained-more ch.lists (watches_of ids ch.lits) h.chained w n (sym len) k m ke me kt mt in
    let R : ℕ → Type 0 = λ j. AreChained (pushed m (j + 1) (pushed k j ch.lists)) (watches_of ids ch.lits ++ w ∷ []) in
    let S : List Watch → Type 0 = λ ws. AreChained (pushed m (length ch.lits + 1) (pushed k (length ch.lits) ch.lists)) ws in
    subst P (sym ie) (subst Q (sym ce) (record {
      room = rw (length-set, length-set) h.room;
      pairs = omega (arith, h.pairs, length-append ch.lits (a ∷ b ∷ []), length-append ids (id ∷ []));
      chained = subst S (sym (one-more ids ch.lits id a b h.pairs)) (subst R (sym h.pairs) lists);
    }))

pub view-more : (vars : ℕ) (ids ids' : List ℕ) (ch ch' : Chained) (v : Watching) (id : ℕ) (a b : Lit) → AreHung vars ids ch → ids' ≡ ids ++ id ∷ [] → ch'.lits ≡ ch.lits ++ a ∷ b ∷ [] → record { vars = vars; list = watches_of ids ch.lits } ≡ v → record { vars = vars; list = watches_of ids' ch'.lits } ≡ record v { list = v.list ++ (record { clause = id; first = a; second = b }) ∷ [] }
view-more vars ids ids' ch ch' v id a b h ie le is =
    let w : Watch = record { clause = id; first = a; second = b } in
    let list-is : watches_of ids' ch'.lits ≡ watches_of ids ch.lits ++ w ∷ [] =
    ap (λ (ns : List ℕ). watches_of ns ch'.lits) ie ∙ ap (λ (ls : List Lit). watches_of (ids ++ id ∷ []) ls) le ∙ one-more ids ch.lits id a b h.pairs in
    let as-view : List Watch → Watching = (λ ws. record { vars = vars; list = ws }) in
    ap as-view list-is ∙ ap (λ (x : Watching). record x { list = x.list ++ w ∷ [] }) is

-- the chain of a literal is there
pub chain-there : (vars : ℕ) (ids : List ℕ) (ch : Chained) (l : Lit) (k : ℕ) → AreHung vars ids ch → InVars vars l → k ≡ code l → k < length ch.lists
chain-there vars ids ch l k h there ke = omega (arith, h.room, ke, code-lt l vars there.1)
