use Rattle.std.proofs.Common.{◌≡◌, ℕ, ◌-◌, ◌<◌, ◌≤◌, ◌⊎◌, inl, inr, List, length, ◌++◌, ◌∷◌, [], refl, sym, ap, ap₂, ◌∙◌, subst, arith, length-append, append_assoc, append-nil}
use Rattle.clause_store.specs.declared.Lit.{Lit}
use Rattle.clause_store.specs.Clauses.{Formula}
use Rattle.clause_store.specs.Propagation.{negations}
use Rattle.cdcl_core.specs.declared.parts.Engine.{Engine}
use Rattle.cdcl_core.specs.Answering.{AreLessons}
use Rattle.cdcl_core.specs.Numbers.{at_numbers, at_others}
use Rattle.cdcl_core.specs.Search.{IsLesson, given_in, learned_in}
use Rattle.cdcl_core.specs.Steps.{HasSame}
use Rattle.cdcl_core.proofs.Deciding.{footing-start}
use Rattle.cdcl_core.proofs.Ending.{not-refuted, no-lessons, lessons-more}
use Rattle.cdcl_core.proofs.Numbering.{follows-all, length-numbers}
use Rattle.cdcl_core.proofs.rounds.find_answer.Goals as goal

given-same : (e f : Engine) → HasSame e f → given_in f ≡ given_in e
given-same e f s = ap₂ (λ (ns : List ℕ) (g : Formula). at_others 0 ns g.clauses) s.learned s.store

learned-same : (e f : Engine) → HasSame e f → learned_in f ≡ learned_in e
learned-same e f s = ap₂ (λ (ns : List ℕ) (g : Formula). at_numbers ns g.clauses) s.learned s.store

-- one lesson more, where the clauses were called otherwise
taught : (given learned g l l' : List (List Lit)) (clause : List Lit) → g ≡ given → l' ≡ l ++ clause ∷ [] → IsLesson (g ++ l) clause
    → (more : List (List Lit)) × (l ≡ learned ++ more) × AreLessons (given ++ learned) more
    → (more : List (List Lit)) × (l' ≡ learned ++ more) × AreLessons (given ++ learned) more
taught given learned g l l' clause ge le lesson (more, is, k) = (
  more ++ clause ∷ [],
  le ∙ ap (λ xs. xs ++ clause ∷ []) is ∙ append_assoc learned more (clause ∷ []),
  lessons-more given learned more clause k (subst (λ xs. IsLesson xs clause) (ap₂ (λ (xs ys : List (List Lit)). xs ++ ys) ge is) lesson),
)

same-lessons : (given learned l l' : List (List Lit)) → l' ≡ l → (more : List (List Lit)) × (l ≡ learned ++ more) × AreLessons (given ++ learned) more → (more : List (List Lit)) × (l' ≡ learned ++ more) × AreLessons (given ++ learned) more
same-lessons given learned l l' e (more, is, k) = (more, e ∙ is, k)

room-more : (l l' : List (List Lit)) (clause : List Lit) (len limit : ℕ) → l' ≡ l ++ clause ∷ [] → len ≡ length l → len < limit → length l' ≤ limit
room-more l l' clause len limit e is lt = omega (arith, is, lt, ap (λ (x : List (List Lit)). length x) e, length-append l (clause ∷ []))

room-same : (l l' : List (List Lit)) (limit : ℕ) → l' ≡ l → length l ≤ limit → length l' ≤ limit
room-same l l' limit e h = omega (arith, h, ap (λ (x : List (List Lit)). length x) e)

not-above : (under level now : ℕ) → now ≡ level → now ≤ under → level ≤ under
not-above under level now e h = omega (arith, e, h)

above : (under level now : ℕ) → now ≡ level → under < now → under < level
above under level now e h = omega (arith, e, h)

-- a clause was learned though the limit may be the greatest: as a list is no longer than that, fewer were learned before
allowed : (l l'' : List (List Lit)) (clause : List Lit) (len count limit : ℕ) → l'' ≡ l ++ clause ∷ [] → len ≡ length l → count ≡ length l'' → count ≤ 18446744073709551615
    → (len < limit) ⊎ (limit ≡ 18446744073709551615) → len < limit
allowed l l'' clause len count limit more is long fits (inl lt) = lt
allowed l l'' clause len count limit more is long fits (inr e) = omega (arith, is, long, fits, e, ap (λ (x : List (List Lit)). length x) more, length-append l (clause ∷ []))

full : (l l' : List (List Lit)) (len limit : ℕ) → l' ≡ l → len ≡ length l' → limit ≤ len → length l ≤ limit → length l' ≡ limit
full l l' len limit e is le h = omega (arith, is, le, h, ap (λ (x : List (List Lit)). length x) e)

less : (l l' l'' : List (List Lit)) (clause : List Lit) (len limit : ℕ) → l' ≡ l → l'' ≡ l' ++ clause ∷ [] → len ≡ length l' → len < limit → limit - length l'' < limit - length l
less l l' l'' clause len limit e more is lt =
    omega (arith, is, lt, ap (λ (x : List (List Lit)). length x) e, ap (λ (x : List (List Lit)). length x) more, length-append l' (clause ∷ []))

-- how many clauses are learned
counted : (e : Engine) (len : ℕ) → len ≡ length e.learned → len ≡ length (learned_in e)
counted e len is = is ∙ sym (length-numbers e.learned e.store.clauses)

pub search-init : goal.search-init
search-init g c = record {
  sound = c.requires.sound;
  vars = refl;
  given = refl;
  learned = ([], sym (append-nil (learned_in c.args.engine.now)), no-lessons (given_in c.args.engine.now ++ learned_in c.args.engine.now));
  within = c.requires.room;
  footing = footing-start c.args.assumptions.now c.args.engine.now.trail _ c.requires.sound.search.course c.requires.start refl refl;
}

pub returns-then-is_spent-clause-verdict : goal.returns-then-is_spent-clause-verdict
returns-then-is_spent-clause-verdict g c =
    let e = c.descend.new.engine in
    let spent = c.is_spent.ensures.spent c.if-is_spent.true in
    let k = c.in-Conflict.ensures in (
      full (learned_in c.search.engine) (learned_in c.descend.new.engine) c.len.result c.args.limit (learned-same c.search.engine c.descend.new.engine k.same) (counted c.descend.new.engine c.len.result c.len.ensures)
          spent.0 c.search.invariant.within,
      λ found. not-refuted c.descend.new.engine.store.clauses c.descend.new.engine.watches.list c.descend.new.engine.trail c.args.assumptions.now c.descend.new.footing k.sound.search k.footing
          (above c.descend.new.footing.level c.descend.new.engine.trail.level c.level.result c.level.ensures.level c.if-level-footing.false)
          (follows-all c.descend.new.engine.learned c.descend.new.engine.store.clauses (negations c.args.assumptions.now) k.sound.learned found),
      spent.1,
    )

still : (e f : Engine) (clause : List Lit) (len n limit : ℕ) → learned_in f ≡ learned_in e ++ clause ∷ [] → len ≡ length e.learned → n ≡ length f.learned → length f.learned ≤ 18446744073709551615
    → (len < limit) ⊎ (limit ≡ 18446744073709551615) → len < limit
still e f clause len n limit more is long fits or = allowed (learned_in e) (learned_in f) clause len n limit more (counted e len is) (counted f n long) (omega (arith, long, fits)) or

pub search-smaller : goal.search-smaller
search-smaller g c =
    let k = c.in-Conflict.ensures in
    let s = c.in_ok-study-in-Conflict.ensures in
    let lt : c.len.result < c.args.limit = (still c.descend.new.engine c.study.new.engine s.lesson.0 c.len.result c.count-count.result c.args.limit s.lesson.2 c.len.ensures (c.count-count.ensures.count ∙ ap length c.as_slice.ensures)
    (subst (λ ns. length ns ≤ 18446744073709551615) c.as_slice.ensures c.count-count.ensures.fits) (c.is_spent.ensures.allowed c.if-is_spent.false)) in
    less (learned_in c.search.engine) (learned_in c.descend.new.engine) (learned_in c.breathe.new.engine) s.lesson.0 c.len.result c.args.limit
    (learned-same c.search.engine c.descend.new.engine k.same) (learned-same c.study.new.engine c.breathe.new.engine c.breathe.ensures.same ∙ s.lesson.2)
    (counted c.descend.new.engine c.len.result c.len.ensures) lt

pub search-preserved : goal.search-preserved
search-preserved g c =
    let k = c.in-Conflict.ensures in
    let s = c.in_ok-study-in-Conflict.ensures in
    let lt : c.len.result < c.args.limit = (still c.descend.new.engine c.study.new.engine s.lesson.0 c.len.result c.count-count.result c.args.limit s.lesson.2 c.len.ensures (c.count-count.ensures.count ∙ ap length c.as_slice.ensures)
    (subst (λ ns. length ns ≤ 18446744073709551615) c.as_slice.ensures c.count-count.ensures.fits) (c.is_spent.ensures.allowed c.if-is_spent.false)) in
    let b = c.breathe.ensures in
    let i = c.search.invariant in
    let given = given-same c.search.engine c.descend.new.engine k.same ∙ i.given in
    let learned = learned-same c.study.new.engine c.breathe.new.engine b.same ∙ s.lesson.2 in
    record {
      sound = b.sound;
      vars = ap (λ (f : Formula). f.vars) b.same.store ∙ s.vars ∙ ap (λ (f : Formula). f.vars) k.same.store ∙ i.vars;
      given = given-same c.study.new.engine c.breathe.new.engine b.same ∙ s.given ∙ given;
      learned = taught (given_in c.args.engine.now) (learned_in c.args.engine.now) (given_in c.descend.new.engine) (learned_in c.descend.new.engine) (learned_in c.breathe.new.engine) s.lesson.0 given learned s.lesson.1
          (same-lessons (given_in c.args.engine.now) (learned_in c.args.engine.now) (learned_in c.search.engine) (learned_in c.descend.new.engine) (learned-same c.search.engine c.descend.new.engine k.same) i.learned);
      within = room-more (learned_in c.descend.new.engine) (learned_in c.breathe.new.engine) s.lesson.0 c.len.result c.args.limit learned (counted c.descend.new.engine c.len.result c.len.ensures) lt;
      footing = b.footing;
    }
