-- Private: the rows of the words of model files over a list of events.
use Rattle.std.specs.Prelude.{◌≡◌, ℕ, true, List, length, ◌↔◌}
use Rattle.fer_events.specs.declared.event.Event.{Event}
use Rattle.model_reader.specs.declared.expr.Expr.{Expr}
use Rattle.model_reader.specs.declared.expr.Expr.TheVariants as expr
use Rattle.event_relations.specs.declared.lexicon.Lexicon.{Lexicon}
use Rattle.event_relations.specs.declared.words.Word.{Word}
use Rattle.event_relations.specs.declared.words.Word.TheVariants.{Po, Id, Any, SameFile, SameBlock, SameDir, SameName, SameCall, SameTxn}
use Rattle.event_relations.specs.Rows.{has}
use Rattle.event_relations.specs.Showing.{RelatesPlaces}

-- the word as an expression
abbrev pub as_expr : Word → Expr
as_expr Po = expr.Po
as_expr Id = expr.Id
as_expr Any = expr.Any
as_expr SameFile = expr.SameFile
as_expr SameBlock = expr.SameBlock
as_expr SameDir = expr.SameDir
as_expr SameName = expr.SameName
as_expr SameCall = expr.SameCall
as_expr SameTxn = expr.SameTxn

-- there is a row for each event, and their pairs are those that the word relates
pub record ShowsWord (events : List Event) (x : Expr) (rows : List ℕ) : Type 0 where
  pub long : length rows ≡ length events
  pub bits : (a b : ℕ) → (has rows a b ≡ true) ↔ RelatesPlaces events x a b

-- the rows of each word are there
pub record IsLexicon (events : List Event) (words : Lexicon) : Type 0 where
  pub po : ShowsWord events expr.Po words.po
  pub id : ShowsWord events expr.Id words.id
  pub any : ShowsWord events expr.Any words.any
  pub file : ShowsWord events expr.SameFile words.file
  pub block : ShowsWord events expr.SameBlock words.block
  pub dir : ShowsWord events expr.SameDir words.dir
  pub name : ShowsWord events expr.SameName words.name
  pub call : ShowsWord events expr.SameCall words.call
  pub txn : ShowsWord events expr.SameTxn words.txn
