-- Laws of chains.
use Rattle.std.proofs.Common.{◌≡◌, ◌≢◌, ℕ, zero, suc, ◌+◌, ◌-◌, ◌<◌, ◌≤◌, ◌⊎◌, inl, inr, true, false, List, [], ◌∷◌, ◌++◌, length, get_or, set, map, slice_get, Some, None, eqb, refl, ap, sym, ◌∙◌, subst, arith, get_or-set_other, get_or-set_same, length-set, add-one, length-append, replicate}
use Rattle.std.specs.List.{Contains, IsDistinct, AllByRecursion, list_any}
use Rattle.std.proofs.lemmas.Bool.{cases_eq}
use Rattle.std.proofs.lemmas.Bool.Decides.{nat_tests}
use Rattle.std.proofs.lemmas.List.{same_lists, get_or-map, get_or_default, get_or-replicate, get_or_append_left, length-replicate}
use Rattle.std.proofs.lemmas.Map.Steps.{length-le_from_distinct_below}
use Rattle.clause_store.proofs.GeneralLists.{Contains-head, Contains-head_is, Contains-tail, Contains-cons_cases, Contains-nil}
use Rattle.watch_lists.specs.Links.{walk, lists_of, IsChain, Linked, In, shifted, pushed, exchanged, Moves}

-- a chain has no place twice, and only places that are there, so it is not longer than the array
pub chain-in : (next : List ℕ) (link : ℕ) (xs : List ℕ) → IsChain next link xs → (y : ℕ) → Contains xs y → y < length next
chain-in next link [] h y c = absurd (Contains-nil y c)
chain-in next link (x ∷ xs) h y c = elim (Contains-cons_cases x xs y c) [
  | inl e ↦ rw (← e) h.1
  | inr c ↦ chain-in next (get_or next x 0) xs h.3 y c
]

any-contains : (q : ℕ) (xs : List ℕ) → list_any (eqb q) xs ≡ true → Contains xs q
any-contains q [] e = cc
any-contains q (x ∷ xs) e = elim (cases_eq q x) [
  | inl same ↦ Contains-head_is x xs q (sym same)
  | inr ne ↦
      let rest : list_any (eqb q) xs ≡ true = grind (arith, nat_tests) in
      Contains-tail x xs q (any-contains q xs rest)
]

not-same : (x y : ℕ) → x ≢ y → eqb x y ≡ false
not-same x y ne = grind (arith, nat_tests)

chain-distinct : (next : List ℕ) (link : ℕ) (xs : List ℕ) → IsChain next link xs → IsDistinct eqb xs
unfolding IsDistinct
chain-distinct next link [] h = tt
chain-distinct next link (x ∷ xs) h = (none xs h.2, chain-distinct next (get_or next x 0) xs h.3)
  where
    none : (ys : List ℕ) → (Contains ys x → ⊥) → AllByRecursion (λ y. eqb x y ≡ false) ys
    none [] away = tt
    none (y ∷ ys) away =
        (not-same x y (λ e. away (Contains-head_is y ys x (sym e))), none ys (λ c. away (Contains-tail y ys x c)))

chain-short : (next : List ℕ) (link : ℕ) (xs : List ℕ) → IsChain next link xs → length xs ≤ length next
chain-short next link xs h = length-le_from_distinct_below xs (length next) (chain-distinct next link xs h) (λ q e. chain-in next link xs h q (any-contains q xs e))

-- walking finds a chain that is not too long
walk-chain : (n : ℕ) (next : List ℕ) (link : ℕ) (xs : List ℕ) → IsChain next link xs → length xs ≤ n → walk n next link ≡ xs
unfolding walk
walk-chain zero next link [] h l = refl
walk-chain (suc n) next link [] h l = rw h refl
walk-chain zero next link (x ∷ xs) h l = absurd (omega (arith, l))
walk-chain (suc n) next link (x ∷ xs) h l = rw (h.0, add-one) (ap (λ (zs : List ℕ). x ∷ zs) (walk-chain n next (get_or next x 0) xs h.3 (omega arith)))

length-mapped : (f : ℕ → List ℕ) (xs : List ℕ) → length (map f xs) ≡ length xs
length-mapped f [] = refl
length-mapped f (x ∷ xs) = ap (λ (n : ℕ). suc n) (length-mapped f xs)

length_lists : (heads next : List ℕ) → length (lists_of heads next) ≡ length heads
length_lists heads next = length-mapped (walk (length next) next) heads

-- the lists are those that are found by walking
pub lists-linked : (heads next : List ℕ) (all : List (List ℕ)) → Linked heads next all → lists_of heads next ≡ all
lists-linked heads next all h =
    same_lists (lists_of heads next) all (length_lists heads next ∙ sym h.len)
    (λ k d lt.
    let kt : k < length heads = omega (arith, lt, length_lists heads next) in
    let ka : k < length all = omega (arith, kt, h.len) in
    get_or-map (walk (length next) next) heads k 0 d kt
    ∙ walk-chain (length next) next (get_or heads k 0) (get_or all k []) (h.chain k kt) (chain-short next (get_or heads k 0) (get_or all k []) (h.chain k kt))
    ∙ get_or_default all k [] d ka)

-- a link that is not on the chain may change
chain-frame : (next : List ℕ) (link : ℕ) (xs : List ℕ) (x v : ℕ) → IsChain next link xs → (Contains xs x → ⊥) → IsChain (set next x v) link xs
chain-frame next link [] x v h away = h
chain-frame next link (y ∷ ys) x v h away =
    let ne : y ≢ x = λ e. away (Contains-head_is y ys x e) in
    (h.0, rw length-set h.1, h.2, rw get_or-set_other (chain-frame next (get_or next y 0) ys x v h.3 (λ c. away (Contains-tail y ys x c))))

-- the first place is taken from its list
module _ (heads next : List ℕ) (all : List (List ℕ)) (h : Linked heads next all) (from x : ℕ) (xs : List ℕ) (lt : from < length heads) (e : get_or all from [] ≡ x ∷ xs) where
  chained : IsChain next (get_or heads from 0) (x ∷ xs)
  chained = let P : List ℕ → Type 0 = λ ys. IsChain next (get_or heads from 0) ys in subst P e (h.chain from lt)

  pub head-is : get_or heads from 0 ≡ x + 1
  head-is = chained.0

  pub in-next : x < length next
  in-next = chained.1

  from_in : from < length all
  from_in = omega (arith, h.len, lt)

  -- what is in a list afterwards was in it before
  pub was-in : (k y : ℕ) → Contains (get_or (set all from xs) k []) y → Contains (get_or all k []) y
  was-in k y c = elim (cases_eq k from) [
    | inl same ↦
        let lt' : from < length all = from_in in
        let P : ℕ → Type 0 = λ j. Contains (get_or (set all from xs) j []) y in
        let Q : ℕ → Type 0 = λ j. Contains (get_or all j []) y in
        let there : Contains xs y = rw get_or-set_same at (subst P same c) in
        subst Q (sym same) (rw e (Contains-tail x xs y there))
    | inr ne ↦ rw get_or-set_other at c
  ]

  pub gone : (k : ℕ) → k < length heads → Contains (get_or (set all from xs) k []) x → ⊥
  gone k kt c = elim (cases_eq k from) [
    | inl same ↦
        let lt' : from < length all = from_in in
        let P : ℕ → Type 0 = λ j. Contains (get_or (set all from xs) j []) x in
        let there : Contains xs x = rw get_or-set_same at (subst P same c) in
        chained.2 there
    | inr ne ↦
        let first : Contains (get_or all from []) x = rw e (Contains-head x xs) in
        ne (h.apart k from x kt lt (was-in k x c) first)
  ]

  pub linked-pop : Linked (set heads from (get_or next x 0)) next (set all from xs)
  linked-pop = record {
    len = rw (length-set, length-set) h.len;
    chain = λ k kt'.
        let kt : k < length heads = rw length-set at kt' in
        elim (cases_eq k from) [
          | inl same ↦
              let lt' : from < length all = from_in in
              rw (same, get_or-set_same, get_or-set_same) chained.3
          | inr ne ↦ rw (get_or-set_other, get_or-set_other) (h.chain k kt)
        ];
    apart = λ k m y kt mt a b. h.apart k m y (rw length-set at kt) (rw length-set at mt) (was-in k y a) (was-in m y b);
  }

-- a place that is in no list is put before one
module _ (heads next : List ℕ) (all : List (List ℕ)) (h : Linked heads next all) (to x : ℕ) (lt : to < length heads) (xt : x < length next) (away : (k : ℕ) → k < length heads → Contains (get_or all k []) x → ⊥) where
  to_in : to < length all
  to_in = omega (arith, h.len, lt)

  pub came-in : (k y : ℕ) → Contains (get_or (set all to (x ∷ get_or all to [])) k []) y → ((y ≡ x) × (k ≡ to)) ⊎ Contains (get_or all k []) y
  came-in k y c = elim (cases_eq k to) [
    | inl same ↦
        let lt' : to < length all = to_in in
        let P : ℕ → Type 0 = λ j. Contains (get_or (set all to (x ∷ get_or all to [])) j []) y in
        let Q : ℕ → Type 0 = λ j. Contains (get_or all j []) y in
        let there : Contains (x ∷ get_or all to []) y = rw get_or-set_same at (subst P same c) in
        elim (Contains-cons_cases x (get_or all to []) y there) [
          | inl e ↦ inl (sym e, same)
          | inr later ↦ inr (subst Q (sym same) later)
        ]
    | inr ne ↦ inr (rw get_or-set_other at c)
  ]

  pub linked-push : Linked (set heads to (x + 1)) (set next x (get_or heads to 0)) (set all to (x ∷ get_or all to []))
  linked-push = record {
    len = rw (length-set, length-set) h.len;
    chain = λ k kt'.
        let kt : k < length heads = rw length-set at kt' in
        elim (cases_eq k to) [
          | inl same ↦
              let lt' : to < length all = to_in in
              rw (same, get_or-set_same, get_or-set_same)
              (refl, rw length-set xt, away to lt, rw get_or-set_same (chain-frame next (get_or heads to 0) (get_or all to []) x (get_or heads to 0) (h.chain to lt) (away to lt)))
          | inr ne ↦ rw (get_or-set_other, get_or-set_other) (chain-frame next (get_or heads k 0) (get_or all k []) x (get_or heads to 0) (h.chain k kt) (away k kt))
        ];
    apart = λ k m y kt' mt' a b.
        let kt : k < length heads = rw length-set at kt' in
        let mt : m < length heads = rw length-set at mt' in
        let P : ℕ → Type 0 = λ z. Contains (get_or all k []) z in
        let Q : ℕ → Type 0 = λ z. Contains (get_or all m []) z in
        elim (came-in k y a) [
          | inl f ↦ elim (came-in m y b) [
            | inl g ↦ f.1 ∙ sym g.1
            | inr g ↦ absurd (away m mt (subst Q f.0 g))
          ]
          | inr f ↦ elim (came-in m y b) [
            | inl g ↦ absurd (away k kt (subst P g.0 f))
            | inr g ↦ h.apart k m y kt mt f g
          ]
        ];
  }

pub parts : (ys : List ℕ) → 0 < length ys → (x : ℕ) × (xs : List ℕ) × (ys ≡ x ∷ xs)
parts [] h = absurd (omega (arith, h))
parts (x ∷ xs) h = (x, xs, refl)

-- the first place of one list goes before another
module _ (heads next : List ℕ) (all : List (List ℕ)) (h : Linked heads next all) (from to : ℕ) (from_in : from < length all) (to_in : to < length all) (two : from ≢ to) where
  module _ (x : ℕ) (xs : List ℕ) (e : get_or all from [] ≡ x ∷ xs) where
    lt : from < length heads
    lt = omega (arith, h.len, from_in)

    pub shifted-is : shifted from to all ≡ set (set all from xs) to (x ∷ get_or (set all from xs) to [])
    shifted-is =
        let ne : to ≢ from = (λ q. two (sym q)) in
        rw (e, get_or-set_other) refl

    gone' : (k : ℕ) → k < length (set heads from (get_or next x 0)) → Contains (get_or (set all from xs) k []) x → ⊥
    gone' k kt = gone heads next all h from x xs lt e k (rw length-set at kt)

    pub linked-shift : (link a b : ℕ) → link ≡ get_or heads from link → a ≡ get_or next (link - 1) a → b ≡ get_or (set heads from a) to b → Linked (set (set heads from a) to link) (set next (link - 1) b) (shifted from to all)
    linked-shift link a b el ea eb =
        let lt' : from < length heads = lt in
        let link-is : link ≡ x + 1 = el ∙ get_or_default heads from link 0 lt' ∙ head-is heads next all h from x xs lt' e in
        let place-is : link - 1 ≡ x = omega (arith, link-is) in
        let xt : x < length next = in-next heads next all h from x xs lt' e in
        let a-is : a ≡ get_or next x 0 = ea ∙ ap (λ (k : ℕ). get_or next k a) place-is ∙ get_or_default next x a 0 xt in
        let to' : to < length (set heads from (get_or next x 0)) = rw length-set (omega (arith, h.len, to_in)) in
        let b-is : b ≡ get_or (set heads from (get_or next x 0)) to 0 = eb ∙ ap (λ (k : ℕ). get_or (set heads from k) to b) a-is ∙ get_or_default (set heads from (get_or next x 0)) to b 0 to' in
        rw (shifted-is, place-is, link-is, a-is, b-is)
        (linked-push (set heads from (get_or next x 0)) next (set all from xs) (linked-pop heads next all h from x xs lt' e) to x to' xt gone')

    pub moves-shift : Moves all (shifted from to all) x to
    moves-shift =
        let ne : to ≢ from = (λ q. two (sym q)) in
        let lt' : from < length heads = lt in
        let to' : to < length (set heads from (get_or next x 0)) = rw length-set (omega (arith, h.len, to_in)) in
        let xt : x < length next = in-next heads next all h from x xs lt' e in
        let to1 : to < length (set all from xs) = rw length-set to_in in
        let came = came-in (set heads from (get_or next x 0)) next (set all from xs) (linked-pop heads next all h from x xs lt' e) to x to' xt gone' in
        rw shifted-is (record {
          into = λ k y i.
              let k-in : k < length all = rw (length-set, length-set) at i.0 in
              let k-heads : k < length heads = omega (arith, h.len, k-in) in
              elim (came k y i.1) [
                | inl here ↦ inl here
                | inr old ↦ inr (
                  λ q. (let P : ℕ → Type 0 = λ z. Contains (get_or (set all from xs) k []) z in gone heads next all h from x xs lt' e k k-heads (subst P q old)),
                  (k-in, was-in heads next all h from x xs lt' e k y old),
                )
              ];
          arrived = (rw (length-set, length-set) to_in, rw get_or-set_same (Contains-head x (get_or (set all from xs) to [])));
          stays = λ k y ny i. (
            rw (length-set, length-set) i.0,
            elim (cases_eq k to) [
              | inl same ↦
                  let old : Contains (get_or all to []) y = (let Q : ℕ → Type 0 = λ j. Contains (get_or all j []) y in subst Q same i.1) in
                  let there : Contains (get_or (set all from xs) to []) y = rw get_or-set_other old in
                  rw (same, get_or-set_same) (Contains-tail x (get_or (set all from xs) to []) y there)
              | inr apart ↦ rw get_or-set_other (elim (cases_eq k from) [
                | inl same ↦
                    let old : Contains (x ∷ xs) y = (let Q : ℕ → Type 0 = λ j. Contains (get_or all j []) y in rw e at (subst Q same i.1)) in
                    rw (same, get_or-set_same) (elim (Contains-cons_cases x xs y old) [
                      | inl q ↦ absurd (ny (sym q))
                      | inr c ↦ c
                    ])
                | inr other ↦ rw get_or-set_other i.1
              ])
            ],
          );
        })

-- what is known of the first place
pub first-is : (next : List ℕ) (link : ℕ) (xs : List ℕ) → IsChain next link xs → (link ≡ 0 → slice_get xs 0 ≡ None) × (link ≢ 0 → slice_get xs 0 ≡ Some (link - 1))
first-is next link [] h = (λ e. refl, λ ne. absurd (ne h))
first-is next link (x ∷ xs) h = (λ e. absurd (omega (arith, e, h.0)), λ ne. (let q : x ≡ link - 1 = omega (arith, h.0) in ap (λ (k : ℕ). Some k) q))

pub Linked-at : (heads next : List ℕ) (v : List (List ℕ)) → lists_of heads next ≡ v → Linked heads next (lists_of heads next) → Linked heads next v
Linked-at heads next v is inv = let P : List (List ℕ) → Type 0 = λ all. Linked heads next all in subst P is inv

-- chains without a place
pub linked-new : (n : ℕ) → Linked (replicate n 0) [] (replicate n [])
linked-new n = record {
  len = length-replicate {A = List ℕ} n [] ∙ sym (length-replicate {A = ℕ} n 0);
  chain = λ k kt.
      let lt : k < n = omega (arith, kt, length-replicate {A = ℕ} n 0) in
      rw (get_or-replicate {A = List ℕ} n k [] [] lt, get_or-replicate {A = ℕ} n k 0 0 lt) refl;
  apart = λ k m x kt mt a b.
      let lt : k < n = omega (arith, kt, length-replicate {A = ℕ} n 0) in
      absurd (Contains-nil x (rw (get_or-replicate {A = List ℕ} n k [] [] lt) at a));
}

-- more room
chain-longer : (next zs : List ℕ) (link : ℕ) (xs : List ℕ) → IsChain next link xs → IsChain (next ++ zs) link xs
chain-longer next zs link [] h = h
chain-longer next zs link (x ∷ xs) h =
    let lt : x < length next = h.1 in
    (h.0, omega (arith, lt, length-append next zs), h.2, rw (get_or_append_left next zs 0 x lt) (chain-longer next zs (get_or next x 0) xs h.3))

pub linked-longer : (heads next zs : List ℕ) (all : List (List ℕ)) → Linked heads next all → Linked heads (next ++ zs) all
linked-longer heads next zs all h = record {
  len = h.len;
  chain = λ k kt. chain-longer next zs (get_or heads k 0) (get_or all k []) (h.chain k kt);
  apart = h.apart;
}

-- two new places
module _ (heads next : List ℕ) (all : List (List ℕ)) (h : Linked heads next all) (place k m : ℕ) (k_in : k < length all) (m_in : m < length all) (room : place + 2 ≤ length next) (away : (j x : ℕ) → In all j x → x < place) where
  not-there : (x : ℕ) → place ≤ x → (j : ℕ) → j < length heads → Contains (get_or all j []) x → ⊥
  not-there x le j jt c =
      let ja : j < length all = omega (arith, jt, h.len) in
      omega (arith, le, away j x (ja, c))

  k_heads : k < length heads
  k_heads = omega (arith, h.len, k_in)

  place_in : place < length next
  place_in = omega (arith, room)

  once : Linked (set heads k (place + 1)) (set next place (get_or heads k 0)) (pushed k place all)
  once = linked-push heads next all h k place k_heads place_in (not-there place (omega arith))

  not-there' : (j : ℕ) → j < length (set heads k (place + 1)) → Contains (get_or (pushed k place all) j []) (place + 1) → ⊥
  not-there' j jt c = elim (came-in heads next all h k place k_heads place_in (not-there place (omega arith)) j (place + 1) c) [
    | inl e ↦ omega (arith, e.0)
    | inr old ↦ not-there (place + 1) (omega arith) j (rw length-set at jt) old
  ]

  pub linked-pair : (a b : ℕ) → a ≡ get_or heads k a → b ≡ get_or (set heads k (place + 1)) m b → Linked (set (set heads k (place + 1)) m (place + 2)) (set (set next place a) (place + 1) b) (pushed m (place + 1) (pushed k place all))
  linked-pair a b ea eb =
      let k_lt : k < length heads = k_heads in
      let m_lt : m < length (set heads k (place + 1)) = rw length-set (omega (arith, h.len, m_in)) in
      let p_lt : place + 1 < length (set next place (get_or heads k 0)) = rw length-set (omega (arith, room)) in
      let a-is : a ≡ get_or heads k 0 = ea ∙ get_or_default heads k a 0 k_lt in
      let b-is : b ≡ get_or (set heads k (place + 1)) m 0 = eb ∙ get_or_default (set heads k (place + 1)) m b 0 m_lt in
      let two : place + 2 ≡ place + 1 + 1 = omega arith in
      rw (a-is, b-is, two)
      (linked-push (set heads k (place + 1)) (set next place (get_or heads k 0)) (pushed k place all) once m (place + 1) m_lt p_lt not-there')

pub Linked-grown : (heads next next' zs : List ℕ) (v : List (List ℕ)) → next' ≡ next ++ zs → lists_of heads next ≡ v → Linked heads next (lists_of heads next) → Linked heads next' v
Linked-grown heads next next' zs v e is inv =
    let P : List ℕ → Type 0 = λ xs. Linked heads xs v in
    subst P (sym e) (linked-longer heads next zs v (Linked-at heads next v is inv))

-- two lists in each other's place
module _ (heads next : List ℕ) (all : List (List ℕ)) (h : Linked heads next all) (a b : ℕ) (a_in : a < length all) (b_in : b < length all) where
  turn : (k y : ℕ) → Contains (get_or (exchanged a b all) k []) y → (j : ℕ) × ((j < length heads) ⊎ (j ≡ k)) × Contains (get_or all j []) y × (((k ≡ b) × (j ≡ a)) ⊎ ((k ≢ b) × (((k ≡ a) × (j ≡ b)) ⊎ ((k ≢ a) × (j ≡ k)))))
  turn k y c = elim (cases_eq k b) [
    | inl same ↦
        let lt : b < length (set all a (get_or all b [])) = rw length-set b_in in
        let P : ℕ → Type 0 = λ j. Contains (get_or (exchanged a b all) j []) y in
        (a, inl (omega (arith, h.len, a_in)), rw get_or-set_same at (subst P same c), inl (same, refl))
    | inr ne ↦
        let there : Contains (get_or (set all a (get_or all b [])) k []) y = rw get_or-set_other at c in
        elim (cases_eq k a) [
          | inl same ↦
              let lt : a < length all = a_in in
              let P : ℕ → Type 0 = λ j. Contains (get_or (set all a (get_or all b [])) j []) y in
              (b, inl (omega (arith, h.len, b_in)), rw get_or-set_same at (subst P same there), inr (ne, inl (same, refl)))
          | inr na ↦ (k, inr refl, rw get_or-set_other at there, inr (ne, inr (na, refl)))
        ]
  ]

  pub linked-exchange : (x : ℕ) (y : ℕ) → x ≡ get_or heads a x → y ≡ get_or heads b y → Linked (set (set heads a y) b x) next (exchanged a b all)
  linked-exchange x y ex ey =
      let ah : a < length heads = omega (arith, h.len, a_in) in
      let bh : b < length heads = omega (arith, h.len, b_in) in
      let x-is : x ≡ get_or heads a 0 = ex ∙ get_or_default heads a x 0 ah in
      let y-is : y ≡ get_or heads b 0 = ey ∙ get_or_default heads b y 0 bh in
      record {
        len = rw (length-set, length-set, length-set, length-set) h.len;
        chain = λ k kt'.
            let kt : k < length heads = rw (length-set, length-set) at kt' in
            elim (cases_eq k b) [
              | inl same ↦
                  let lt : b < length (set all a (get_or all b [])) = rw length-set b_in in
                  let lh : b < length (set heads a y) = rw length-set bh in
                  rw (same, get_or-set_same, get_or-set_same, x-is) (h.chain a ah)
              | inr ne ↦ rw (get_or-set_other (set heads a y) b k x 0 ne, get_or-set_other (set all a (get_or all b [])) b k (get_or all a []) [] ne) (elim (cases_eq k a) [
                | inl same ↦
                    let lt : a < length all = a_in in
                    rw (same, get_or-set_same, get_or-set_same, y-is) (h.chain b bh)
                | inr na ↦ rw (get_or-set_other, get_or-set_other) (h.chain k kt)
              ])
            ];
        apart = λ k m z kt' mt' ca cb.
            let kt : k < length heads = rw (length-set, length-set) at kt' in
            let mt : m < length heads = rw (length-set, length-set) at mt' in
            let tk = turn k z ca in
            let tm = turn m z cb in
            let jk : tk.0 < length heads = elim tk.1 [ inl q ↦ q | inr q ↦ omega (arith, q, kt) ] in
            let jm : tm.0 < length heads = elim tm.1 [ inl q ↦ q | inr q ↦ omega (arith, q, mt) ] in
            let same : tk.0 ≡ tm.0 = h.apart tk.0 tm.0 z jk jm tk.2 tm.2 in
            grind (arith, tk.3, tm.3, same);
      }
