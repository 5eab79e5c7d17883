-- When the words relate two events, word by word.
use Rattle.std.proofs.Common.{◌≡◌, ℕ, ◌<◌, ◌↔◌, Bool, true, refl, sym, subst}
use Rattle.fer_events.specs.declared.event.Event.{Event}
use Rattle.model_reader.specs.declared.expr.Expr as whole
use Rattle.model_reader.specs.declared.expr.Expr.{Expr}
use Rattle.model_reader.specs.declared.expr.Expr.TheVariants as expr
use Rattle.event_relations.specs.Words.{Relates, BothCarry}
use Rattle.event_relations.specs.Words.Relates.{earlier, itself, any, file, block, dir, name, call, txn}
use Rattle.event_relations.proofs.Inverting.{relates_opened}

-- a test that decides when the word relates decides so of an expression that is the word
pub of_word : (a b : ℕ) (e f : Event) (x y : Expr) (r : Bool) → x ≡ y → (r ≡ true) ↔ Relates a b e f y → (r ≡ true) ↔ Relates a b e f x
of_word a b e f x y r is h = subst (λ (z : Expr). (r ≡ true) ↔ Relates a b e f z) (sym is) h

pub is-Po : (a b : ℕ) (e f : Event) (r : Bool) → (r ≡ true) ↔ (a < b) → (r ≡ true) ↔ Relates a b e f expr.Po
unfolding whole.out-Expr denote.Hole.Carrier.out Rattle.model_reader.specs.declared.expr.Expr.TheBlock.shown-the_row-Expr-0 denote.Hole.Carrier.shown denote.Hole.Carrier.hidden
is-Po a b e f r h = (λ t. earlier (h.0 t), λ s. h.1 (relates_opened a b e f expr.Po s))

pub is-Id : (a b : ℕ) (e f : Event) (r : Bool) → (r ≡ true) ↔ (a ≡ b) → (r ≡ true) ↔ Relates a b e f expr.Id
unfolding whole.out-Expr denote.Hole.Carrier.out Rattle.model_reader.specs.declared.expr.Expr.TheBlock.shown-the_row-Expr-0 denote.Hole.Carrier.shown denote.Hole.Carrier.hidden
is-Id a b e f r h = (λ t. itself (h.0 t), λ s. h.1 (relates_opened a b e f expr.Id s))

pub is-SameFile : (a b : ℕ) (e f : Event) (r : Bool) → (r ≡ true) ↔ (BothCarry e.file f.file) → (r ≡ true) ↔ Relates a b e f expr.SameFile
unfolding whole.out-Expr denote.Hole.Carrier.out Rattle.model_reader.specs.declared.expr.Expr.TheBlock.shown-the_row-Expr-0 denote.Hole.Carrier.shown denote.Hole.Carrier.hidden
is-SameFile a b e f r h = (λ t. file (h.0 t), λ s. h.1 (relates_opened a b e f expr.SameFile s))

pub is-SameDir : (a b : ℕ) (e f : Event) (r : Bool) → (r ≡ true) ↔ (BothCarry e.dir f.dir) → (r ≡ true) ↔ Relates a b e f expr.SameDir
unfolding whole.out-Expr denote.Hole.Carrier.out Rattle.model_reader.specs.declared.expr.Expr.TheBlock.shown-the_row-Expr-0 denote.Hole.Carrier.shown denote.Hole.Carrier.hidden
is-SameDir a b e f r h = (λ t. dir (h.0 t), λ s. h.1 (relates_opened a b e f expr.SameDir s))

pub is-SameName : (a b : ℕ) (e f : Event) (r : Bool) → (r ≡ true) ↔ (BothCarry e.slot f.slot) → (r ≡ true) ↔ Relates a b e f expr.SameName
unfolding whole.out-Expr denote.Hole.Carrier.out Rattle.model_reader.specs.declared.expr.Expr.TheBlock.shown-the_row-Expr-0 denote.Hole.Carrier.shown denote.Hole.Carrier.hidden
is-SameName a b e f r h = (λ t. name (h.0 t), λ s. h.1 (relates_opened a b e f expr.SameName s))

pub is-SameCall : (a b : ℕ) (e f : Event) (r : Bool) → (r ≡ true) ↔ (e.call ≡ f.call) → (r ≡ true) ↔ Relates a b e f expr.SameCall
unfolding whole.out-Expr denote.Hole.Carrier.out Rattle.model_reader.specs.declared.expr.Expr.TheBlock.shown-the_row-Expr-0 denote.Hole.Carrier.shown denote.Hole.Carrier.hidden
is-SameCall a b e f r h = (λ t. call (h.0 t), λ s. h.1 (relates_opened a b e f expr.SameCall s))

pub is-SameTxn : (a b : ℕ) (e f : Event) (r : Bool) → (r ≡ true) ↔ (e.txn ≡ f.txn) → (r ≡ true) ↔ Relates a b e f expr.SameTxn
unfolding whole.out-Expr denote.Hole.Carrier.out Rattle.model_reader.specs.declared.expr.Expr.TheBlock.shown-the_row-Expr-0 denote.Hole.Carrier.shown denote.Hole.Carrier.hidden
is-SameTxn a b e f r h = (λ t. txn (h.0 t), λ s. h.1 (relates_opened a b e f expr.SameTxn s))

pub is-Any : (a b : ℕ) (e f : Event) → (true ≡ true) ↔ Relates a b e f expr.Any
is-Any a b e f = (λ t. any, λ s. refl)

pub is-SameBlock : (a b : ℕ) (e f : Event) (r : Bool) → (r ≡ true) ↔ (BothCarry e.file f.file × BothCarry e.block f.block) → (r ≡ true) ↔ Relates a b e f expr.SameBlock
unfolding whole.out-Expr denote.Hole.Carrier.out Rattle.model_reader.specs.declared.expr.Expr.TheBlock.shown-the_row-Expr-0 denote.Hole.Carrier.shown denote.Hole.Carrier.hidden
is-SameBlock a b e f r h = (λ t. block (h.0 t).0 (h.0 t).1, λ s. h.1 (relates_opened a b e f expr.SameBlock s))
