-- What an operator's meaning says of its operands.
use Rattle.std.proofs.Common.{◌≡◌, ℕ, ◌<◌, ◌⊎◌, inl, inr, List, refl, subst}
use Rattle.std.specs.Int.{bit_at}
use Rattle.fer_events.specs.declared.event.Event.{Event}
use Rattle.fer_events.specs.Orders.{IsEvent}
use Rattle.model_reader.specs.declared.expr.Expr as whole
use Rattle.model_reader.specs.declared.expr.Expr.{Expr}
use Rattle.model_reader.specs.declared.expr.Expr.TheVariants as expr
use Rattle.model_reader.specs.declared.expr.Expr.TheOpen.{Expr-F}
use Rattle.model_reader.specs.declared.expr.Expr.TheOpen as open_expr
use Rattle.event_relations.specs.Words.{Relates, BothCarry, kind_place}
use Rattle.event_relations.specs.Words.Relates.{earlier, itself, any, file, block, dir, name, call, txn, kinds}
use Rattle.event_relations.specs.Meaning.{Names, Means}
use Rattle.event_relations.specs.Meaning.Means.{word, named, left, right, both, joined, one, more}

-- what it is that a word relates two events
abbrev pub RelatesOpen : ℕ → ℕ → Event → Event → Expr-F Expr → Type 0
RelatesOpen a b e f open_expr.Po = a < b
RelatesOpen a b e f open_expr.Id = a ≡ b
RelatesOpen a b e f open_expr.Any = Unit {0}
RelatesOpen a b e f open_expr.SameFile = BothCarry e.file f.file
RelatesOpen a b e f open_expr.SameBlock = BothCarry e.file f.file × BothCarry e.block f.block
RelatesOpen a b e f open_expr.SameDir = BothCarry e.dir f.dir
RelatesOpen a b e f open_expr.SameName = BothCarry e.slot f.slot
RelatesOpen a b e f open_expr.SameCall = e.call ≡ f.call
RelatesOpen a b e f open_expr.SameTxn = e.txn ≡ f.txn
RelatesOpen a b e f (open_expr.Kinds bits) = (a ≡ b) × (bit_at bits (kind_place e.kind) ≡ 1)
RelatesOpen a b e f operator = ⊥

pub relates_opened : (a b : ℕ) (e f : Event) (x : Expr) → Relates a b e f x → RelatesOpen a b e f (whole.out-Expr x)
unfolding whole.out-Expr denote.Hole.Carrier.out Rattle.model_reader.specs.declared.expr.Expr.TheBlock.shown-the_row-Expr-0 denote.Hole.Carrier.shown denote.Hole.Carrier.hidden
relates_opened a b e f _ (earlier r) = r
relates_opened a b e f _ (itself r) = r
relates_opened a b e f _ any = tt
relates_opened a b e f _ (file r) = r
relates_opened a b e f _ (block r s) = (r, s)
relates_opened a b e f _ (dir r) = r
relates_opened a b e f _ (name r) = r
relates_opened a b e f _ (call r) = r
relates_opened a b e f _ (txn r) = r
relates_opened a b e f _ (kinds bits r s) = (r, s)

-- the word relates two events of these numbers
abbrev pub IsWord : List Event → Expr → ℕ → ℕ → Type 0
IsWord events x a b = (e : Event) × (f : Event) × IsEvent events a e × IsEvent events b f × Relates a b e f x

abbrev pub Opened : List Event → Names → Expr → Expr-F Expr → ℕ → ℕ → Type 0
Opened events names whole_x (open_expr.Or x y) a b = Means events names x a b ⊎ Means events names y a b
Opened events names whole_x (open_expr.And x y) a b = Means events names x a b × Means events names y a b
Opened events names whole_x (open_expr.Seq x y) a b = (c : ℕ) × Means events names x a c × Means events names y c b
Opened events names whole_x (open_expr.Plus x) a b = Means events names x a b ⊎ ((c : ℕ) × Means events names x a c × Means events names whole_x c b)
Opened events names whole_x (open_expr.Named i) a b = names i a b
Opened events names whole_x w a b = IsWord events whole_x a b

-- a word's meaning is what the word relates
word_opened : (events : List Event) (names : Names) (x : Expr) (a b : ℕ) (e f : Event) → IsEvent events a e → IsEvent events b f → Relates a b e f x → Opened events names x (whole.out-Expr x) a b
unfolding whole.out-Expr denote.Hole.Carrier.out Rattle.model_reader.specs.declared.expr.Expr.TheBlock.shown-the_row-Expr-0 denote.Hole.Carrier.shown denote.Hole.Carrier.hidden
word_opened events names _ a b e f ea fb (earlier r) = (e, f, ea, fb, earlier r)
word_opened events names _ a b e f ea fb (itself r) = (e, f, ea, fb, itself r)
word_opened events names _ a b e f ea fb any = (e, f, ea, fb, any)
word_opened events names _ a b e f ea fb (file r) = (e, f, ea, fb, file r)
word_opened events names _ a b e f ea fb (block r s) = (e, f, ea, fb, block r s)
word_opened events names _ a b e f ea fb (dir r) = (e, f, ea, fb, dir r)
word_opened events names _ a b e f ea fb (name r) = (e, f, ea, fb, name r)
word_opened events names _ a b e f ea fb (call r) = (e, f, ea, fb, call r)
word_opened events names _ a b e f ea fb (txn r) = (e, f, ea, fb, txn r)
word_opened events names _ a b e f ea fb (kinds bits r s) = (e, f, ea, fb, kinds bits r s)

pub means_opened : (events : List Event) (names : Names) (x : Expr) (a b : ℕ) → Means events names x a b → Opened events names x (whole.out-Expr x) a b
unfolding whole.out-Expr denote.Hole.Carrier.out Rattle.model_reader.specs.declared.expr.Expr.TheBlock.shown-the_row-Expr-0 denote.Hole.Carrier.shown denote.Hole.Carrier.hidden
means_opened events names _ _ _ (word x a b e f ea fb r) = word_opened events names x a b e f ea fb r
means_opened events names _ _ _ (named i a b h) = h
means_opened events names _ _ _ (left x y a b h) = inl h
means_opened events names _ _ _ (right x y a b h) = inr h
means_opened events names _ _ _ (both x y a b h k) = (h, k)
means_opened events names _ _ _ (joined x y a b c h k) = (b, h, k)
means_opened events names _ _ _ (one x a b h) = inl h
means_opened events names _ _ _ (more x a b c h k) = inr (b, h, k)

pub named_parts : (events : List Event) (names : Names) (i a b : ℕ) → Means events names (expr.Named i) a b → names i a b
unfolding whole.out-Expr denote.Hole.Carrier.out Rattle.model_reader.specs.declared.expr.Expr.TheBlock.shown-the_row-Expr-0 denote.Hole.Carrier.shown denote.Hole.Carrier.hidden
named_parts events names i a b h = means_opened events names (expr.Named i) a b h

pub or_parts : (events : List Event) (names : Names) (x y : Expr) (a b : ℕ) → Means events names (expr.Or x y) a b → Means events names x a b ⊎ Means events names y a b
unfolding whole.out-Expr denote.Hole.Carrier.out Rattle.model_reader.specs.declared.expr.Expr.TheBlock.shown-the_row-Expr-0 denote.Hole.Carrier.shown denote.Hole.Carrier.hidden
or_parts events names x y a b h = means_opened events names (expr.Or x y) a b h

pub and_parts : (events : List Event) (names : Names) (x y : Expr) (a b : ℕ) → Means events names (expr.And x y) a b → Means events names x a b × Means events names y a b
unfolding whole.out-Expr denote.Hole.Carrier.out Rattle.model_reader.specs.declared.expr.Expr.TheBlock.shown-the_row-Expr-0 denote.Hole.Carrier.shown denote.Hole.Carrier.hidden
and_parts events names x y a b h = means_opened events names (expr.And x y) a b h

pub seq_parts : (events : List Event) (names : Names) (x y : Expr) (a b : ℕ) → Means events names (expr.Seq x y) a b → (c : ℕ) × Means events names x a c × Means events names y c b
unfolding whole.out-Expr denote.Hole.Carrier.out Rattle.model_reader.specs.declared.expr.Expr.TheBlock.shown-the_row-Expr-0 denote.Hole.Carrier.shown denote.Hole.Carrier.hidden
seq_parts events names x y a b h = means_opened events names (expr.Seq x y) a b h

abbrev IfPlus : Expr → (ℕ → ℕ → Type 0) → Expr-F Expr → ℕ → ℕ → Type 0
IfPlus x R (open_expr.Plus y) a b = y ≡ x → R a b
IfPlus x R other a b = Unit {0}

word_walk : (a b : ℕ) (e f : Event) (x y : Expr) (R : ℕ → ℕ → Type 0) → Relates a b e f y → IfPlus x R (whole.out-Expr y) a b
unfolding whole.out-Expr denote.Hole.Carrier.out Rattle.model_reader.specs.declared.expr.Expr.TheBlock.shown-the_row-Expr-0 denote.Hole.Carrier.shown denote.Hole.Carrier.hidden
word_walk a b e f x _ R (earlier r) = tt
word_walk a b e f x _ R (itself r) = tt
word_walk a b e f x _ R any = tt
word_walk a b e f x _ R (file r) = tt
word_walk a b e f x _ R (block r s) = tt
word_walk a b e f x _ R (dir r) = tt
word_walk a b e f x _ R (name r) = tt
word_walk a b e f x _ R (call r) = tt
word_walk a b e f x _ R (txn r) = tt
word_walk a b e f x _ R (kinds bits r s) = tt

plus_walk :
    (events : List Event) (names : Names) (x : Expr) (R : ℕ → ℕ → Type 0)
    → ((a b : ℕ) → Means events names x a b → R a b) → ((a b c : ℕ) → Means events names x a b → R b c → R a c)
    → (y : Expr) (a b : ℕ) → Means events names y a b → IfPlus x R (whole.out-Expr y) a b
unfolding whole.out-Expr denote.Hole.Carrier.out Rattle.model_reader.specs.declared.expr.Expr.TheBlock.shown-the_row-Expr-0 denote.Hole.Carrier.shown denote.Hole.Carrier.hidden
plus_walk events names x R start further _ _ _ (word y a b e f ea fb r) = word_walk a b e f x y R r
plus_walk events names x R start further _ _ _ (named i a b h) = tt
plus_walk events names x R start further _ _ _ (left y z a b h) = tt
plus_walk events names x R start further _ _ _ (right y z a b h) = tt
plus_walk events names x R start further _ _ _ (both y z a b h k) = tt
plus_walk events names x R start further _ _ _ (joined y z a b c h k) = tt
plus_walk events names x R start further _ _ _ (one y a b h) = λ is. start a b (subst (λ (z : Expr). Means events names z a b) is h)
plus_walk events names x R start further _ _ _ (more y a b c h k) =
    λ is. further a b c (subst (λ (z : Expr). Means events names z a b) is h) (plus_walk events names x R start further _ b c k is)

-- a path's meaning is in each relation that has the pairs and, before each of its own pairs, a pair more
pub plus_least :
    (events : List Event) (names : Names) (x : Expr) (R : ℕ → ℕ → Type 0)
    → ((a b : ℕ) → Means events names x a b → R a b) → ((a b c : ℕ) → Means events names x a b → R b c → R a c)
    → (a b : ℕ) → Means events names (expr.Plus x) a b → R a b
unfolding whole.out-Expr denote.Hole.Carrier.out Rattle.model_reader.specs.declared.expr.Expr.TheBlock.shown-the_row-Expr-0 denote.Hole.Carrier.shown denote.Hole.Carrier.hidden
plus_least events names x R start further a b h = plus_walk events names x R start further (expr.Plus x) a b h refl
