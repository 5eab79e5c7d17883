-- Chains as they are kept: links and literals side by side.
use Rattle.std.proofs.Common.{◌≡◌, ◌≢◌, ℕ, ◌+◌, ◌-◌, ◌<◌, ◌≤◌, List, [], ◌∷◌, ◌++◌, suc, length, get_or, set, refl, sym, ap, ◌∙◌, subst, arith, length-append, add-one}
use Rattle.std.proofs.lemmas.List.{map-set, set-get_or, get_or_default, length-map, map-append}
use Rattle.std.proofs.Math.ListN.{get_or-map}
use Rattle.clause_store.specs.declared.Lit.{Lit}
use Rattle.watch_lists.specs.declared.links.Place.{Place}
use Rattle.watch_lists.specs.Links.{Chained, Linked, chained_of, In, nexts, lits_at, lists_of, shifted, pushed, exchanged, Moves}
use Rattle.watch_lists.proofs.Chaining.{chain-in, lists-linked, parts, head-is, in-next, linked-shift, moves-shift, linked-exchange, linked-pair, linked-longer, Linked-at}

abbrev chains-as : List (List ℕ) → List Lit → Chained
chains-as all lits = record { lists = all; lits = lits }

pub seen-as : (heads : List ℕ) (places : List Place) (all : List (List ℕ)) (lits : List Lit) → Linked heads (nexts places) all → lits_at places ≡ lits → chained_of heads places ≡ record { lists = all; lits = lits }
seen-as heads places all lits h e =
    ap (λ (x : List (List ℕ)). chains-as x (lits_at places)) (lists-linked heads (nexts places) all h)
    ∙ ap (λ (x : List Lit). chains-as all x) e

pub still-linked : (heads : List ℕ) (places : List Place) (all : List (List ℕ)) → Linked heads (nexts places) all → Linked heads (nexts places) (lists_of heads (nexts places))
still-linked heads places all h =
    let P : List (List ℕ) → Type 0 = λ x. Linked heads (nexts places) x in subst P (sym (lists-linked heads (nexts places) all h)) h

-- one place changes
pub nexts-set : (places : List Place) (i : ℕ) (p : Place) → nexts (set places i p) ≡ set (nexts places) i p.next
nexts-set places i p = map-set (λ (q : Place). q.next) places i p

pub lits-set : (places : List Place) (i : ℕ) (p : Place) → lits_at (set places i p) ≡ set (lits_at places) i p.lit
lits-set places i p = map-set (λ (q : Place). q.lit) places i p

pub next-read : (places : List Place) (i : ℕ) (p : Place) → p ≡ get_or places i p → p.next ≡ get_or (nexts places) i p.next
next-read places i p e = ap (λ (q : Place). q.next) e ∙ sym (get_or-map (λ (q : Place). q.next) places i p)

pub lit-read : (places : List Place) (i : ℕ) (p : Place) → p ≡ get_or places i p → p.lit ≡ get_or (lits_at places) i p.lit
lit-read places i p e = ap (λ (q : Place). q.lit) e ∙ sym (get_or-map (λ (q : Place). q.lit) places i p)

-- its literal stays where the same one is written
lits-same : (places : List Place) (i n : ℕ) (p : Place) → p ≡ get_or places i p → lits_at (set places i (record { next = n; lit = p.lit })) ≡ lits_at places
lits-same places i n p e =
    lits-set places i (record { next = n; lit = p.lit })
    ∙ ap (λ (l : Lit). set (lits_at places) i l) (lit-read places i p e)
    ∙ set-get_or (lits_at places) i p.lit

at-end : {A : Type 0} (xs : List A) (u w z : A) → set (set (xs ++ u ∷ w ∷ []) (length xs) u) (length xs + 1) z ≡ xs ++ u ∷ z ∷ []
at-end xs u w z = rw add-one (later xs u w z)
  where
    later : {A : Type 0} (xs : List A) (u w z : A) → set (set (xs ++ u ∷ w ∷ []) (length xs) u) (suc (length xs)) z ≡ xs ++ u ∷ z ∷ []
    later [] u w z = refl
    later (c ∷ cs) u w z = ap (λ ys. c ∷ ys) (later cs u w z)

second-end : {A : Type 0} (xs : List A) (u w z : A) → set (xs ++ u ∷ w ∷ []) (length xs + 1) z ≡ xs ++ u ∷ z ∷ []
second-end xs u w z = rw add-one (later xs u w z)
  where
    later : {A : Type 0} (xs : List A) (u w z : A) → set (xs ++ u ∷ w ∷ []) (suc (length xs)) z ≡ xs ++ u ∷ z ∷ []
    later [] u w z = refl
    later (c ∷ cs) u w z = ap (λ ys. c ∷ ys) (later cs u w z)

module _ (heads : List ℕ) (places : List Place) (v : Chained) (is : chained_of heads places ≡ v) (inv : Linked heads (nexts places) (lists_of heads (nexts places))) where
  pub linked : Linked heads (nexts places) v.lists
  linked = Linked-at heads (nexts places) v.lists (ap (λ (x : Chained). x.lists) is) inv

  pub lits-are : lits_at places ≡ v.lits
  lits-are = ap (λ (x : Chained). x.lits) is

  -- the first place of one chain goes before another
  module _ (from to : ℕ) (from_in : from < length v.lists) (to_in : to < length v.lists) (two : from ≢ to) (some : 0 < length (get_or v.lists from [])) (link : ℕ) (el : link ≡ get_or heads from link) where
    from_heads : from < length heads
    from_heads = omega (arith, linked.len, from_in)

    pub link-in : (1 ≤ link) × (link - 1 < length places)
    link-in =
        let p = parts (get_or v.lists from []) some in
        let is-link : link ≡ p.0 + 1 = el ∙ get_or_default heads from link 0 from_heads ∙ head-is heads (nexts places) v.lists linked from p.0 p.1 from_heads p.2 in
        let there : p.0 < length places = omega (arith, in-next heads (nexts places) v.lists linked from p.0 p.1 from_heads p.2, length-map places (λ (q : Place). q.next)) in
        (omega (arith, is-link), omega (arith, is-link, there))

    module _ (q a : Place) (b : ℕ) (eq : q ≡ get_or places (link - 1) q) (ea : a ≡ get_or places (link - 1) a) (eb : b ≡ get_or (set heads from a.next) to b) where
      pub shift-linked : Linked (set (set heads from a.next) to link) (nexts (set places (link - 1) (record { next = b; lit = q.lit }))) (shifted from to v.lists)
      shift-linked =
          let p = parts (get_or v.lists from []) some in
          let P : List ℕ → Type 0 = λ xs. Linked (set (set heads from a.next) to link) xs (shifted from to v.lists) in
          subst P (sym (nexts-set places (link - 1) (record { next = b; lit = q.lit })))
          (linked-shift heads (nexts places) v.lists linked from to from_in to_in two p.0 p.1 p.2 link a.next b el (next-read places (link - 1) a ea) eb)

      pub shift-is : chained_of (set (set heads from a.next) to link) (set places (link - 1) (record { next = b; lit = q.lit })) ≡ record v { lists = shifted from to v.lists }
      shift-is = seen-as (set (set heads from a.next) to link) (set places (link - 1) (record { next = b; lit = q.lit })) (shifted from to v.lists) v.lits shift-linked (lits-same places (link - 1) b q eq ∙ lits-are)

      pub shift-moves : (x : ℕ) (xs : List ℕ) → get_or v.lists from [] ≡ x ∷ xs → Moves v.lists (lists_of (set (set heads from a.next) to link) (nexts (set places (link - 1) (record { next = b; lit = q.lit })))) x to
      shift-moves x xs e =
          let P : List (List ℕ) → Type 0 = λ all. Moves v.lists all x to in
          subst P (sym (lists-linked (set (set heads from a.next) to link) (nexts (set places (link - 1) (record { next = b; lit = q.lit }))) (shifted from to v.lists) shift-linked))
          (moves-shift heads (nexts places) v.lists linked from to from_in to_in two x xs e)

  -- two chains in each other's place
  module _ (a b : ℕ) (a_in : a < length v.lists) (b_in : b < length v.lists) (x y : ℕ) (ex : x ≡ get_or heads a x) (ey : y ≡ get_or heads b y) where
    pub exchange-linked : Linked (set (set heads a y) b x) (nexts places) (exchanged a b v.lists)
    exchange-linked = linked-exchange heads (nexts places) v.lists linked a b a_in b_in x y ex ey

    pub exchange-is : chained_of (set (set heads a y) b x) places ≡ record v { lists = exchanged a b v.lists }
    exchange-is = seen-as (set (set heads a y) b x) places (exchanged a b v.lists) v.lits exchange-linked lits-are

  -- a place has another literal
  module _ (i : ℕ) (p : Place) (l : Lit) (ep : p ≡ get_or places i p) where
    pub lit-linked : Linked heads (nexts (set places i (record { next = p.next; lit = l }))) v.lists
    lit-linked =
        let P : List ℕ → Type 0 = λ xs. Linked heads xs v.lists in
        let same : nexts (set places i (record { next = p.next; lit = l })) ≡ nexts places =
        nexts-set places i (record { next = p.next; lit = l })
        ∙ ap (λ (n : ℕ). set (nexts places) i n) (next-read places i p ep)
        ∙ set-get_or (nexts places) i p.next in
        subst P (sym same) linked

    pub lit-is : chained_of heads (set places i (record { next = p.next; lit = l })) ≡ record v { lits = set v.lits i l }
    lit-is =
        seen-as heads (set places i (record { next = p.next; lit = l })) v.lists (set v.lits i l) lit-linked
        (lits-set places i (record { next = p.next; lit = l }) ∙ ap (λ (xs : List Lit). set xs i l) lits-are)

  -- two new places
  module _ (k m : ℕ) (k_in : k < length v.lists) (m_in : m < length v.lists) (a b : Lit) (x : ℕ) (ex : x ≡ get_or heads k x) (longer : List Place) (more : longer ≡ places ++ (record { next = x; lit = a }) ∷ (record { next = 0; lit = b }) ∷ []) (n : ℕ) (ne : n ≡ length places) (y : ℕ) (ey : y ≡ get_or (set heads k (n + 1)) m y) where
    places-are : set longer (n + 1) (record { next = y; lit = b }) ≡ places ++ (record { next = x; lit = a }) ∷ (record { next = y; lit = b }) ∷ []
    places-are =
        let P : ℕ → Type 0 = λ j. set longer (j + 1) (record { next = y; lit = b }) ≡ places ++ (record { next = x; lit = a }) ∷ (record { next = y; lit = b }) ∷ [] in
        subst P (sym ne)
        (ap (λ (ps : List Place). set ps (length places + 1) (record { next = y; lit = b })) more
        ∙ second-end places (record { next = x; lit = a }) (record { next = 0; lit = b }) (record { next = y; lit = b }))

    pub pair-linked : Linked (set (set heads k (n + 1)) m (n + 2)) (nexts (set longer (n + 1) (record { next = y; lit = b }))) (pushed m (length v.lits + 1) (pushed k (length v.lits) v.lists))
    pair-linked =
        let len : length (nexts places) ≡ length places = length-map places (λ (q : Place). q.next) in
        let count : n ≡ length v.lits = ne ∙ sym (length-map places (λ (q : Place). q.lit)) ∙ ap (λ (ls : List Lit). length ls) lits-are in
        let room : n + 2 ≤ length (nexts places ++ x ∷ 0 ∷ []) = omega (arith, ne, len, length-append (nexts places) (x ∷ 0 ∷ [])) in
        let away : (j z : ℕ) → In v.lists j z → z < n = λ j z i. omega (arith, ne, len, in-lists j z i) in
        let two : Linked (set (set heads k (n + 1)) m (n + 2)) (set (set (nexts places ++ x ∷ 0 ∷ []) n x) (n + 1) y) (pushed m (n + 1) (pushed k n v.lists)) =
        linked-pair heads (nexts places ++ x ∷ 0 ∷ []) v.lists (linked-longer heads (nexts places) (x ∷ 0 ∷ []) v.lists linked) n k m k_in m_in room away x y ex ey in
        let nexts-are : nexts (set longer (n + 1) (record { next = y; lit = b })) ≡ set (set (nexts places ++ x ∷ 0 ∷ []) n x) (n + 1) y =
        (let P : ℕ → Type 0 = λ j. nexts (set longer (n + 1) (record { next = y; lit = b })) ≡ set (set (nexts places ++ x ∷ 0 ∷ []) j x) (j + 1) y in
        subst P (len ∙ sym ne)
        (ap nexts places-are
        ∙ map-append (λ (q : Place). q.next) places ((record { next = x; lit = a }) ∷ (record { next = y; lit = b }) ∷ [])
        ∙ sym (at-end (nexts places) x 0 y))) in
        let P : List ℕ → Type 0 = λ xs. Linked (set (set heads k (n + 1)) m (n + 2)) xs (pushed m (length v.lits + 1) (pushed k (length v.lits) v.lists)) in
        let Q : ℕ → Type 0 = λ j. Linked (set (set heads k (n + 1)) m (n + 2)) (set (set (nexts places ++ x ∷ 0 ∷ []) n x) (n + 1) y) (pushed m (j + 1) (pushed k j v.lists)) in
        subst P (sym nexts-are) (subst Q count two)
      where
        in-lists : (j z : ℕ) → In v.lists j z → z < length (nexts places)
        in-lists j z i = chain-in (nexts places) (get_or heads j 0) (get_or v.lists j []) (linked.chain j (omega (arith, linked.len, i.0))) z i.1

    pub pair-is : chained_of (set (set heads k (n + 1)) m (n + 2)) (set longer (n + 1) (record { next = y; lit = b })) ≡ record { lists = pushed m (length v.lits + 1) (pushed k (length v.lits) v.lists); lits = v.lits ++ a ∷ b ∷ [] }
    pair-is =
        seen-as (set (set heads k (n + 1)) m (n + 2)) (set longer (n + 1) (record { next = y; lit = b })) (pushed m (length v.lits + 1) (pushed k (length v.lits) v.lists)) (v.lits ++ a ∷ b ∷ []) pair-linked
        (ap lits_at places-are
        ∙ map-append (λ (q : Place). q.lit) places ((record { next = x; lit = a }) ∷ (record { next = y; lit = b }) ∷ [])
        ∙ ap (λ (xs : List Lit). xs ++ a ∷ b ∷ []) lits-are)
