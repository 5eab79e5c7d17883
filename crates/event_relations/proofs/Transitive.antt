-- Words and closures relate what a path of their pairs joins.
use Rattle.std.proofs.Common.{◌≡◌, ℕ, suc, true, Option, List, refl, sym, ◌∙◌, subst, arith}
use Rattle.fer_events.specs.declared.event.Event.{Event}
use Rattle.fer_events.specs.Orders.{IsEvent}
use Rattle.model_reader.specs.declared.expr.Expr as whole
use Rattle.model_reader.specs.declared.expr.Expr.{Expr}
use Rattle.model_reader.specs.declared.expr.Expr.TheVariants as expr
use Rattle.event_relations.specs.Rows.{has, Joins}
use Rattle.event_relations.specs.Rows.Joins.{one as joins_one, more as joins_more}
use Rattle.event_relations.specs.Words.{Relates, BothCarry}
use Rattle.event_relations.specs.Words.Relates.{earlier, itself, any, file, block, dir, name, call, txn, kinds}
use Rattle.event_relations.specs.Meaning.{Names, Means}
use Rattle.event_relations.specs.Meaning.Means.{word, named, left, right, both, joined, one, more}
use Rattle.event_relations.specs.Showing.{Shows}
use Rattle.event_relations.proofs.Filling.{same_value}
use Rattle.event_relations.proofs.Inverting.{IsWord, relates_opened, means_opened, plus_least}

both_same : (x y z : Option ℕ) → BothCarry x y → BothCarry y z → BothCarry x z
both_same x y z first rest = (rest.0, first.1 ∙ sym first.2 ∙ rest.1, rest.2)

relates_joined : (a b c : ℕ) (e f g : Event) (x : Expr) → Relates a b e f x → Relates b c f g x → Relates a c e g x
unfolding whole.out-Expr denote.Hole.Carrier.out Rattle.model_reader.specs.declared.expr.Expr.TheBlock.shown-the_row-Expr-0 denote.Hole.Carrier.shown denote.Hole.Carrier.hidden
relates_joined a b c e f g _ (earlier r) s = let t = relates_opened b c f g expr.Po s in earlier (omega (arith, r, t))
relates_joined a b c e f g _ (itself r) s = let t = relates_opened b c f g expr.Id s in itself (r ∙ t)
relates_joined a b c e f g _ any s = any
relates_joined a b c e f g _ (file r) s = let t = relates_opened b c f g expr.SameFile s in file (both_same e.file f.file g.file r t)
relates_joined a b c e f g _ (block r q) s =
    let t = relates_opened b c f g expr.SameBlock s in
    block (both_same e.file f.file g.file r t.0) (both_same e.block f.block g.block q t.1)
relates_joined a b c e f g _ (dir r) s = let t = relates_opened b c f g expr.SameDir s in dir (both_same e.dir f.dir g.dir r t)
relates_joined a b c e f g _ (name r) s = let t = relates_opened b c f g expr.SameName s in name (both_same e.slot f.slot g.slot r t)
relates_joined a b c e f g _ (call r) s = let t = relates_opened b c f g expr.SameCall s in call (r ∙ t)
relates_joined a b c e f g _ (txn r) s = let t = relates_opened b c f g expr.SameTxn s in txn (r ∙ t)
relates_joined a b c e f g _ (kinds bits r q) s = let t = relates_opened b c f g (expr.Kinds bits) s in kinds bits (r ∙ t.0) q

-- what relates two events as a word means nothing else
means_only : (events : List Event) (names : Names) (x : Expr) (a b c d : ℕ) (e f : Event) → Relates a b e f x → Means events names x c d → IsWord events x c d
unfolding whole.out-Expr denote.Hole.Carrier.out Rattle.model_reader.specs.declared.expr.Expr.TheBlock.shown-the_row-Expr-0 denote.Hole.Carrier.shown denote.Hole.Carrier.hidden
means_only events names _ a b c d e f (earlier r) h = means_opened events names expr.Po c d h
means_only events names _ a b c d e f (itself r) h = means_opened events names expr.Id c d h
means_only events names _ a b c d e f any h = means_opened events names expr.Any c d h
means_only events names _ a b c d e f (file r) h = means_opened events names expr.SameFile c d h
means_only events names _ a b c d e f (block r q) h = means_opened events names expr.SameBlock c d h
means_only events names _ a b c d e f (dir r) h = means_opened events names expr.SameDir c d h
means_only events names _ a b c d e f (name r) h = means_opened events names expr.SameName c d h
means_only events names _ a b c d e f (call r) h = means_opened events names expr.SameCall c d h
means_only events names _ a b c d e f (txn r) h = means_opened events names expr.SameTxn c d h
means_only events names _ a b c d e f (kinds bits r q) h = means_opened events names (expr.Kinds bits) c d h

word_joined :
    (events : List Event) (names : Names) (x : Expr) (a b c : ℕ) (e f : Event) → IsEvent events a e → IsEvent events b f → Relates a b e f x
    → Means events names x b c → Means events names x a c
word_joined events names x a b c e f ea fb r rest =
    let w = means_only events names x a b b c e f r rest in
    let same : w.0 ≡ f = same_value w.0 f (sym w.2.1 ∙ fb.1) in
    word x a c e w.1 ea w.3 (relates_joined a b c e f w.1 x r (subst (λ (u : Event). Relates b c u w.1 x) same w.4))

-- a path of paths is a path
paths_joined :
    (events : List Event) (names : Names) (x : Expr) (a b c : ℕ) → Means events names (expr.Plus x) a b → Means events names (expr.Plus x) b c
    → Means events names (expr.Plus x) a c
paths_joined events names x a b c first rest =
    plus_least events names x (λ d e. Means events names (expr.Plus x) e c → Means events names (expr.Plus x) d c)
    (λ d e h k. more x d e c h k) (λ d e f h step k. more x d e c h (step k)) a b first rest

-- an expression that is no name, union, intersection or sequence is transitive
pub means_joined :
    (events : List Event) (names : Names) (x : Expr) → ((i : ℕ) → x ≡ expr.Named i → ⊥) → ((l r : Expr) → x ≡ expr.Or l r → ⊥)
    → ((l r : Expr) → x ≡ expr.And l r → ⊥) → ((l r : Expr) → x ≡ expr.Seq l r → ⊥)
    → (a b c : ℕ) → Means events names x a b → Means events names x b c → Means events names x a c
means_joined events names _ no_name no_or no_and no_seq _ _ c (word x a b e f ea fb r) rest = word_joined events names x a b c e f ea fb r rest
means_joined events names _ no_name no_or no_and no_seq _ _ c (named i a b h) rest = absurd (no_name i refl)
means_joined events names _ no_name no_or no_and no_seq _ _ c (left x y a b h) rest = absurd (no_or x y refl)
means_joined events names _ no_name no_or no_and no_seq _ _ c (right x y a b h) rest = absurd (no_or x y refl)
means_joined events names _ no_name no_or no_and no_seq _ _ c (both x y a b h k) rest = absurd (no_and x y refl)
means_joined events names _ no_name no_or no_and no_seq _ _ c (joined x y a b d h k) rest = absurd (no_seq x y refl)
means_joined events names _ no_name no_or no_and no_seq _ _ c (one x a b h) rest = paths_joined events names x a b c (one x a b h) rest
means_joined events names _ no_name no_or no_and no_seq _ _ d (more x a b c h k) rest = paths_joined events names x a c d (more x a b c h k) rest

-- rows that show a transitive relation have what a path of them joins
pub shows_joined :
    (rows : List ℕ) (related : ℕ → ℕ → Type 0) → Shows rows related → ((a b c : ℕ) → related a b → related b c → related a c)
    → (a b : ℕ) → Joins rows a b → has rows a b ≡ true
shows_joined rows related shows all _ _ (joins_one a b h) = h
shows_joined rows related shows all _ _ (joins_more a b c h k) =
    (shows a c).1 (all (suc a) (suc b) (suc c) ((shows a b).0 h) ((shows b c).0 (shows_joined rows related shows all b c k)))
