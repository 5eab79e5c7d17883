-- The equations of folds over predicates.
use Rattle.std.proofs.Common.{◌≡◌, ℕ, List, sym, ap, ◌∙◌}
use Rattle.litmus_syntax.specs.declared.pred.Pred.{Pred}
use Rattle.litmus_syntax.specs.declared.pred.Pred.TheVariants as pred
use Rattle.litmus_syntax.specs.declared.pred.Pred.TheOpen.{Pred-F}
use Rattle.litmus_syntax.specs.declared.pred.Pred.TheOpen as layer
use Rattle.litmus_syntax.specs.declared.pred.Pred.TheFolds.{fold-Pred, fold-roll-Pred}

pub fold_true : (A : Type 0) (step : Pred-F A → A) → fold-Pred A step pred.True ≡ step layer.True
fold_true A step = ap (fold-Pred A step) (sym pred.rolls-True) ∙ fold-roll-Pred A step layer.True

pub fold_false : (A : Type 0) (step : Pred-F A → A) → fold-Pred A step pred.False ≡ step layer.False
fold_false A step = ap (fold-Pred A step) (sym pred.rolls-False) ∙ fold-roll-Pred A step layer.False

pub fold_exists : (A : Type 0) (step : Pred-F A → A) (path : List (List ℕ)) → fold-Pred A step (pred.Exists path) ≡ step (layer.Exists path)
fold_exists A step path = ap (fold-Pred A step) (sym (pred.rolls-Exists path)) ∙ fold-roll-Pred A step (layer.Exists path)

pub fold_same : (A : Type 0) (step : Pred-F A → A) (left right : List (List ℕ)) → fold-Pred A step (pred.Same left right) ≡ step (layer.Same left right)
fold_same A step left right = ap (fold-Pred A step) (sym (pred.rolls-Same left right)) ∙ fold-roll-Pred A step (layer.Same left right)

pub fold_size : (A : Type 0) (step : Pred-F A → A) (path : List (List ℕ)) (size : ℕ) → fold-Pred A step (pred.SizeIs path size) ≡ step (layer.SizeIs path size)
fold_size A step path size = ap (fold-Pred A step) (sym (pred.rolls-SizeIs path size)) ∙ fold-roll-Pred A step (layer.SizeIs path size)

pub fold_content : (A : Type 0) (step : Pred-F A → A) (path : List (List ℕ)) (text : List ℕ) → fold-Pred A step (pred.ContentIs path text) ≡ step (layer.ContentIs path text)
fold_content A step path text = ap (fold-Pred A step) (sym (pred.rolls-ContentIs path text)) ∙ fold-roll-Pred A step (layer.ContentIs path text)

pub fold_bytes : (A : Type 0) (step : Pred-F A → A) (path : List (List ℕ)) (at : ℕ) (text : List ℕ) → fold-Pred A step (pred.BytesAre path at text) ≡ step (layer.BytesAre path at text)
fold_bytes A step path at text = ap (fold-Pred A step) (sym (pred.rolls-BytesAre path at text)) ∙ fold-roll-Pred A step (layer.BytesAre path at text)

pub fold_attr : (A : Type 0) (step : Pred-F A → A) (path : List (List ℕ)) (key : List ℕ) (value : ℕ) → fold-Pred A step (pred.AttrIs path key value) ≡ step (layer.AttrIs path key value)
fold_attr A step path key value = ap (fold-Pred A step) (sym (pred.rolls-AttrIs path key value)) ∙ fold-roll-Pred A step (layer.AttrIs path key value)

pub fold_seen : (A : Type 0) (step : Pred-F A → A) (word : List ℕ) → fold-Pred A step (pred.Seen word) ≡ step (layer.Seen word)
fold_seen A step word = ap (fold-Pred A step) (sym (pred.rolls-Seen word)) ∙ fold-roll-Pred A step (layer.Seen word)

pub fold_not : (A : Type 0) (step : Pred-F A → A) (p : Pred) → fold-Pred A step (pred.Not p) ≡ step (layer.Not (fold-Pred A step p))
fold_not A step p = ap (fold-Pred A step) (sym (pred.rolls-Not p)) ∙ fold-roll-Pred A step (layer.Not p)

pub fold_and : (A : Type 0) (step : Pred-F A → A) (p q : Pred) → fold-Pred A step (pred.And p q) ≡ step (layer.And (fold-Pred A step p) (fold-Pred A step q))
fold_and A step p q = ap (fold-Pred A step) (sym (pred.rolls-And p q)) ∙ fold-roll-Pred A step (layer.And p q)

pub fold_or : (A : Type 0) (step : Pred-F A → A) (p q : Pred) → fold-Pred A step (pred.Or p q) ≡ step (layer.Or (fold-Pred A step p) (fold-Pred A step q))
fold_or A step p q = ap (fold-Pred A step) (sym (pred.rolls-Or p q)) ∙ fold-roll-Pred A step (layer.Or p q)
