-- The byte at a place of a segment is what the segment's writer gives that place alone.
use Rattle.std.proofs.Common.{◌≡◌, ℕ, ◌+◌, ◌-◌, ◌<◌, ◌≤◌, Bool, true, false, leb, cond, List, [], ◌∷◌, length, take, drop, get_or, replicate, Option, Some, None, option_map, refl, sym, ◌∙◌, ap, arith, get_or-drop, get_or-take, unwrap_or, option_and_then, slice_get, is_some}
use Rattle.std.proofs.lemmas.Bool.Decides.{nat_tests}
use Rattle.std.proofs.lemmas.List.{drop_more, get_or-replicate}
use Rattle.std.specs.Option.{IfSome}
use Rattle.fer_events.specs.States.{start_state}
use Rattle.fer_events.specs.Tables.{Trace, IsTrace, file_count}
use Rattle.value_coding.proofs.GeneralRooms.{bytes-whole}
use Rattle.fer_events.specs.declared.event.Event.{Event}
use Rattle.fer_events.specs.declared.event.Effect.{Effect}
use Rattle.fer_events.specs.declared.event.Effect.TheVariants.{Bytes, Grow, Cut, SetAttr, PutName, ClearName, See, Nothing}
use Rattle.value_coding.specs.declared.cell.Cell.TheVariants.{Segment}
use Rattle.value_coding.specs.Cells.{Value, Filled, cell_value}
use Rattle.value_coding.specs.Writers.{carries, bytes_given, has_all, given, is_writer, value_by}

-- one of some bytes
one-byte : (row : List ℕ) (from count place : ℕ) → from ≤ place → place < from + count → place < length row → take 1 (drop place row) ≡ get_or (take count (drop from row)) (place - from) 0 ∷ []
one-byte row from count place low high short =
    let e : from + (place - from) ≡ place = omega arith in
    ap (take 1) (drop_more row place 0 short)
    ∙ ap (λ (b : ℕ). b ∷ [])
    (sym (get_or-take count (drop from row) (place - from) 0 (omega arith)
    ∙ get_or-drop from row (place - from) 0
    ∙ ap (λ (k : ℕ). get_or row k 0) e))

has-yes : (at len start : ℕ) (text : List ℕ) → has_all at len start text ≡ true → (start ≤ at) × (at + len ≤ start + length text)
has-yes at len start text e = grind (arith, nat_tests)

yes-has : (at len start : ℕ) (text : List ℕ) → start ≤ at → at + len ≤ start + length text → has_all at len start text ≡ true
yes-has at len start text l h = grind (arith, nat_tests)

text-byte :
    (at len start place : ℕ) (text bytes : List ℕ) (b : Bool) → has_all at len start text ≡ b
    → cond b (Some (take len (drop (at - start) text))) None ≡ Some bytes → at ≤ place → place < at + len
    → cond (has_all place 1 start text) (Some (take 1 (drop (place - start) text))) None ≡ Some (get_or bytes (place - at) 0 ∷ [])
text-byte at len start place text bytes true e is low high =
    let has = has-yes at len start text e in
    let same : take len (drop (at - start) text) ≡ bytes = cc in
    let back : place - start - (at - start) ≡ place - at = omega (arith, has.0) in
    rw (yes-has place 1 start text (omega (arith, has.0)) (omega (arith, has.1)))
    (ap (λ (xs : List ℕ). Some xs)
    (one-byte text (at - start) len (place - start) (omega (arith, has.0)) (omega (arith, has.0)) (omega (arith, has.0, has.1))
    ∙ ap (λ (k : ℕ). get_or (take len (drop (at - start) text)) k 0 ∷ []) back
    ∙ ap (λ (xs : List ℕ). get_or xs (place - at) 0 ∷ []) same))
text-byte at len start place text bytes false e is low high = cc

le-yes : (m n : ℕ) → leb m n ≡ true → m ≤ n
le-yes m n e = grind (arith, nat_tests)

yes-le : (m n : ℕ) → m ≤ n → leb m n ≡ true
yes-le m n h = grind (arith, nat_tests)

cut-byte :
    (at len size place : ℕ) (bytes : List ℕ) (b : Bool) → leb size at ≡ b
    → ◌≡◌ {A = Option (List ℕ)} (cond b (Some (replicate len 0)) None) (Some bytes) → at ≤ place → place < at + len
    → ◌≡◌ {A = Option (List ℕ)} (cond (leb size place) (Some (replicate 1 0)) None) (Some (get_or bytes (place - at) 0 ∷ []))
cut-byte at len size place bytes true e is low high =
    let has = le-yes size at e in
    let same : replicate len 0 ≡ bytes = cc in
    rw (yes-le size place (omega arith))
    (ap (λ (k : ℕ). Some (k ∷ [])) (sym (get_or-replicate len (place - at) 0 0 (omega arith)) ∙ ap (λ (xs : List ℕ). get_or xs (place - at) 0) same))
cut-byte at len size place bytes false e is low high = cc

pub byte-given :
    (at len place : ℕ) (effect : Effect) (bytes : List ℕ) → bytes_given at len effect ≡ Some bytes → at ≤ place → place < at + len
    → bytes_given place 1 effect ≡ Some (get_or bytes (place - at) 0 ∷ [])
byte-given at len place (Bytes start text) bytes e low high = text-byte at len start place text bytes (has_all at len start text) refl e low high
byte-given at len place (Grow start text size) bytes e low high = text-byte at len start place text bytes (has_all at len start text) refl e low high
byte-given at len place (Cut size) bytes e low high = cut-byte at len size place bytes (leb size at) refl e low high
byte-given at len place (SetAttr key value) bytes e low high = cc
byte-given at len place PutName bytes e low high = cc
byte-given at len place ClearName bytes e low high = cc
byte-given at len place (See word) bytes e low high = cc
byte-given at len place Nothing bytes e low high = cc

filled : (o : Option (List ℕ)) (b : Bool) (bytes : List ℕ) → cond b (option_map Filled o) None ≡ Some (Filled bytes) → (b ≡ true) × (o ≡ Some bytes)
filled None true bytes e = cc
filled (Some xs) true bytes e = (refl, (cc))
filled o false bytes e = cc

pub byte-of :
    (file at len place : ℕ) (e : Event) (bytes : List ℕ) → given (Segment file at len) e ≡ Some (Filled bytes) → at ≤ place
    → place < at + len → given (Segment file place 1) e ≡ Some (Filled (get_or bytes (place - at) 0 ∷ []))
byte-of file at len place e bytes is low high =
    let found = filled (bytes_given at len e.effect) (carries e.file file) bytes is in
    rw found.0 (ap (λ (o : Option (List ℕ)). option_map Filled o) (byte-given at len place e.effect bytes found.1 low high))

one-of-start :
    (t : Trace) (file at len place : ℕ) (bytes : List ℕ) → IsTrace t → file < file_count t
    → cell_value (start_state t) (Segment file at len) ≡ Filled bytes → at ≤ place → place < at + len → place < 65536
    → cell_value (start_state t) (Segment file place 1) ≡ Filled (get_or bytes (place - at) 0 ∷ [])
one-of-start t file at len place bytes rules there is low high short =
    let long = bytes-whole t file [] rules there in
    let same : take len (drop at (unwrap_or (slice_get (start_state t).bytes file) [])) ≡ bytes = cc in
    ap Filled
    (one-byte (unwrap_or (slice_get (start_state t).bytes file) []) at len place low high (omega arith)
    ∙ ap (λ (xs : List ℕ). get_or xs (place - at) 0 ∷ []) same)

one-given :
    (o p : Option Value) (v w : Value) (bytes one : List ℕ) → is_some o ≡ true → unwrap_or o v ≡ Filled bytes
    → (o ≡ Some (Filled bytes) → p ≡ Some (Filled one)) → unwrap_or p w ≡ Filled one
one-given None p v w bytes one t e h = cc
one-given (Some x) p v w bytes one t e h = ap (λ (q : Option Value). unwrap_or q w) (h (ap (λ (y : Value). Some y) e))

one-by :
    (found : Option Event) (file at len place : ℕ) (v w : Value) (bytes : List ℕ)
    → is_some (option_and_then (given (Segment file at len)) found) ≡ true
    → unwrap_or (option_and_then (given (Segment file at len)) found) v ≡ Filled bytes → at ≤ place → place < at + len
    → unwrap_or (option_and_then (given (Segment file place 1)) found) w ≡ Filled (get_or bytes (place - at) 0 ∷ [])
one-by None file at len place v w bytes t e low high = cc
one-by (Some event) file at len place v w bytes t e low high =
    one-given (given (Segment file at len) event) (given (Segment file place 1) event) v w bytes (get_or bytes (place - at) 0 ∷ []) t e
    (λ is. byte-of file at len place event bytes is low high)

pub byte-by :
    (t : Trace) (file at len place : ℕ) (writer : Option ℕ) (bytes : List ℕ) → IsTrace t → file < file_count t
    → at + len ≤ 65536 → IfSome writer (λ w. is_writer t.events (Segment file at len) w ≡ true)
    → value_by t (Segment file at len) writer ≡ Filled bytes → at ≤ place → place < at + len
    → value_by t (Segment file place 1) writer ≡ Filled (get_or bytes (place - at) 0 ∷ [])
byte-by t file at len place None bytes rules there room w e low high = one-of-start t file at len place bytes rules there e low high (omega arith)
byte-by t file at len place (Some a) bytes rules there room w e low high =
    one-by (slice_get t.events (a - 1)) file at len place (cell_value (start_state t) (Segment file at len)) (cell_value (start_state t) (Segment file place 1)) bytes w e low high
