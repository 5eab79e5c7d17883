-- Rounds add pairs to rows, and come to an end: the words of the rows rise.
use Rattle.std.proofs.Common.{◌≡◌, ◌≢◌, ℕ, zero, suc, ◌+◌, ◌-◌, ◌^◌, ◌<◌, ◌≤◌, ◌||◌, inl, inr, Bool, true, false, eqb, List, [], ◌∷◌, ◌++◌, length, set, get_or, bit_or, Some, slice_get, refl, sym, ◌∙◌, ap, subst, arith}
use Rattle.std.proofs.lemmas.List.{get_or-set_same}
use Rattle.std.proofs.Math.Seq.{set-append_seam}
use Rattle.std.proofs.lemmas.Nat.{le_or_r}
use Rattle.std.proofs.lemmas.Option.{slice_get_within, get_or_from_slice_get}
use Rattle.fer_events.specs.declared.event.Event.{Event}
use Rattle.model_reader.specs.declared.expr.Expr.{Expr}
use Rattle.event_relations.specs.Rows.{has, AreAmong, HasNew}
use Rattle.event_relations.specs.Meaning.{Names, Means, AreWithin, with_name}
use Rattle.event_relations.specs.Showing.{Shows, names_shown, shown, NamesWithin, HasOneMore}
use Rattle.std.specs.Int.{bit_at}
use Rattle.std.proofs.lemmas.Bool.{cases_eq}
use Rattle.event_relations.proofs.Joining.{or_row, or_left, has_within}
use Rattle.event_relations.proofs.Sounding.{IsSound}
use Rattle.event_relations.proofs.RowRounds.{pushed_shows, sound_rows_start, sound_rows_round, rows_reached}
use Rattle.event_relations.proofs.Within.{means_within, with_name_within, in_square_only, square_closed}
use Rattle.fer_events.specs.Pairs.{square}

-- how far the words are from this number together
abbrev pub room : ℕ → List ℕ → ℕ
room top [] = 0
room top (w ∷ ws) = (top - w) + room top ws

room_le : (top : ℕ) (old new : List ℕ) → length new ≡ length old → ((c : ℕ) → get_or old c 0 ≤ get_or new c 0) → room top new ≤ room top old
room_le top [] [] same rises = omega arith
room_le top [] (n ∷ ns) same rises = absurd (omega (arith, same))
room_le top (o ∷ os) [] same rises = absurd (omega (arith, same))
room_le top (o ∷ os) (n ∷ ns) same rises =
    let rest : room top ns ≤ room top os = room_le top os ns (omega (arith, same)) (λ c. rises (suc c)) in
    let here : o ≤ n = rises 0 in
    omega arith

-- where no word falls, and one that is below the number rises, the room gets less
pub room_falls :
    (top : ℕ) (old new : List ℕ) (place : ℕ) → length new ≡ length old → ((c : ℕ) → get_or old c 0 ≤ get_or new c 0)
    → place < length old → get_or old place 0 < top → get_or old place 0 < get_or new place 0 → room top new < room top old
room_falls top [] new place same rises there fits more = absurd (omega (arith, there))
room_falls top (o ∷ os) [] place same rises there fits more = absurd (omega (arith, same))
room_falls top (o ∷ os) (n ∷ ns) zero same rises there fits more =
    let rest : room top ns ≤ room top os = room_le top os ns (omega (arith, same)) (λ c. rises (suc c)) in
    let low : o < top = fits in
    let here : o < n = more in
    omega arith
room_falls top (o ∷ os) (n ∷ ns) (suc place) same rises there fits more =
    let rest : room top ns < room top os = room_falls top os ns place (omega (arith, same)) (λ c. rises (suc c)) (omega (arith, there)) fits more in
    let here : o ≤ n = rises 0 in
    omega arith

-- rows that others add a pair to have more room than the united ones
pub united_falls :
    (more rows new : List ℕ) → length new ≡ length rows → ((c : ℕ) → get_or new c 0 ≡ bit_or (get_or more c 0) (get_or rows c 0))
    → HasNew more rows → room (2 ^ 128) new < room (2 ^ 128) rows
united_falls more rows new same words is =
    room_falls (2 ^ 128) rows new is.place same (λ c. subst (λ (w : ℕ). get_or rows c 0 ≤ w) (sym (words c)) (le_or_r (get_or more c 0) (get_or rows c 0)))
    is.there is.fits (subst (λ (w : ℕ). get_or rows is.place 0 < w) (sym (words is.place)) is.rises)

-- after some rounds: behind the names stand rows that are a part of each closed list
pub record AreRounds (events : List Event) (value : Expr) (names now : List (List ℕ)) : Type 0 where
  pub rows : List ℕ
  pub pushed : now ≡ names ++ rows ∷ []
  pub long : length rows ≡ length events
  pub sound : IsSound events (names_shown names) (length names) value (shown rows)

pub rounds_start :
    (events : List Event) (value : Expr) (names : List (List ℕ)) (rows : List ℕ) → length rows ≡ length events → ((a b : ℕ) → has rows a b ≡ false)
    → AreRounds events value names (names ++ rows ∷ [])
rounds_start events value names rows long none = record {
  rows = rows;
  pushed = refl;
  long = long;
  sound = sound_rows_start events (names_shown names) (length names) value rows none;
}

last_is : (names : List (List ℕ)) (rows last : List ℕ) → slice_get (names ++ rows ∷ []) (length names) ≡ Some last → last ≡ rows
last_is [] rows last is = cc
last_is (n ∷ ns) rows last is = last_is ns rows last is

-- the rows that stand at the last place
pub last_rows : (events : List Event) (value : Expr) (names now : List (List ℕ)) (own : ℕ) (last : List ℕ) (r : AreRounds events value names now)
    → own ≡ length names → slice_get now own ≡ Some last → last ≡ r.rows
last_rows events value names now own last r is at =
    last_is names r.rows last (subst (λ (k : ℕ). slice_get (names ++ r.rows ∷ []) k ≡ Some last) is (subst (λ (ns : List (List ℕ)). slice_get ns own ≡ Some last) r.pushed at))

-- what the expression relates over the names with these rows behind them
shows_over :
    (events : List Event) (value : Expr) (names now : List (List ℕ)) (more : List ℕ) (r : AreRounds events value names now)
    → Shows more (Means events (names_shown now) value) → Shows more (Means events (with_name (length names) (shown r.rows) (names_shown names)) value)
shows_over events value names now more r shows =
    pushed_shows events names r.rows (length names) value more refl
    (subst (λ (ns : List (List ℕ)). Shows more (Means events (names_shown ns) value)) r.pushed shows)

or_turned : (x y z : Bool) → z ≡ (x || y) → z ≡ (y || x)
or_turned true true z is = is
or_turned true false z is = is
or_turned false true z is = is
or_turned false false z is = is

pub rounds_more :
    (events : List Event) (value : Expr) (names now : List (List ℕ)) (own : ℕ) (last more new : List ℕ) → AreRounds events value names now
    → own ≡ length names → slice_get now own ≡ Some last → Shows more (Means events (names_shown now) value)
    → length new ≡ length events → ((a b : ℕ) → has new a b ≡ (has more a b || has last a b)) → AreRounds events value names (set now own new)
rounds_more events value names now own last more new r is at shows long bits =
    let same : last ≡ r.rows = last_rows events value names now own last r is at in
    record {
      rows = new;
      pushed = ap (λ (ns : List (List ℕ)). set ns own new) r.pushed ∙ ap (λ (k : ℕ). set (names ++ r.rows ∷ []) k new) is ∙ set-append_seam names r.rows [] new;
      long = long;
      sound = sound_rows_round events (names_shown names) (length names) value r.rows more new r.sound (shows_over events value names now more r shows)
          (λ a b. or_turned (has more a b) (has r.rows a b) (has new a b) (bits a b ∙ ap (λ (rs : List ℕ). has more a b || has rs a b) same));
    }

-- a round over rows that have what it relates adds nothing
round_adds_none :
    (events : List Event) (value : Expr) (names : Names) (i : ℕ) (rows more : List ℕ) → NamesWithin events names → IsSound events names i value (shown rows)
    → Shows more (Means events (with_name i (shown rows) names) value) → AreAmong more rows
    → (a b : ℕ) → Means events (with_name i (shown rows) names) value a b → shown rows a b
round_adds_none events value names i rows more ok sound shows among a b m =
    let n = length events in
    let inside : (c d : ℕ) → shown rows c d → AreWithin n c d = λ c d h. in_square_only n c d (sound (square n) (square_closed events names ok i value) c d h) in
    let here : AreWithin n a b = means_within events (with_name i (shown rows) names) (with_name_within events names ok i (shown rows) inside) value a b m in
    at a b here m
  where
    at : (a b : ℕ) → AreWithin (length events) a b → Means events (with_name i (shown rows) names) value a b → shown rows a b
    at zero b here m = absurd (omega (arith, here.first.0))
    at (suc a) zero here m = absurd (omega (arith, here.second.0))
    at (suc a) (suc b) here m = among a b ((shows a b).1 m)

pub rounds_stop :
    (events : List Event) (value : Expr) (names now : List (List ℕ)) (own : ℕ) (last more : List ℕ) → AreRounds events value names now → NamesWithin events (names_shown names)
    → own ≡ length names → slice_get now own ≡ Some last → Shows more (Means events (names_shown now) value) → AreAmong more last
    → HasOneMore events true value names now
rounds_stop events value names now own last more r ok is at shows among =
    let same : last ≡ r.rows = last_rows events value names now own last r is at in
    record {
      rows = r.rows;
      pushed = r.pushed;
      long = r.long;
      shows = rows_reached events (names_shown names) ok (length names) value r.rows r.sound
          (round_adds_none events value (names_shown names) (length names) r.rows more ok r.sound (shows_over events value names now more r shows)
          (λ a b h. subst (λ (rs : List ℕ). has rs a b ≡ true) same (among a b h)));
    }

-- the measure falls in a round
pub room_of_last :
    (now : List (List ℕ)) (own : ℕ) (last new : List ℕ) → slice_get now own ≡ Some last → room (2 ^ 128) new < room (2 ^ 128) last
    → room (2 ^ 128) (get_or (set now own new) own []) < room (2 ^ 128) (get_or now own [])
room_of_last now own last new at falls =
    let there : own < length now = slice_get_within now own last at in
    subst (λ (rs : List ℕ). room (2 ^ 128) (get_or (set now own new) own []) < room (2 ^ 128) rs) (sym (get_or_from_slice_get now own last [] at))
    (subst (λ (rs : List ℕ). room (2 ^ 128) rs < room (2 ^ 128) last) (sym (get_or-set_same now own new [] there)) falls)

-- a word that rises nowhere: its pairs are among the others
pub among_more :
    (left right : List ℕ) (a : ℕ) → ((c b : ℕ) → c < a → has left c b ≡ true → has right c b ≡ true)
    → bit_or (get_or left a 0) (get_or right a 0) ≡ get_or right a 0
    → (c b : ℕ) → c < a + 1 → has left c b ≡ true → has right c b ≡ true
among_more left right a below same c b l h = elim (cases_eq c a) [
  | inl here ↦
      let left_has : has left a b ≡ true = sym (ap (λ (k : ℕ). has left k b) here) ∙ h in
      ap (λ (k : ℕ). has right k b) here ∙ sym (ap (λ (w : ℕ). eqb (bit_at w b) 1) same)
      ∙ or_row (get_or left a 0) (get_or right a 0) b ∙ or_left (has left a b) (has right a b) left_has
  | inr apart ↦ below c b (omega (arith, l)) h
]

pub among_all : (left right : List ℕ) (a : ℕ) → ((c b : ℕ) → c < a → has left c b ≡ true → has right c b ≡ true) → length left ≤ a → AreAmong left right
among_all left right a below all c b h = below c b (omega (arith, all, has_within left c b h)) h

pub new_at : (left right : List ℕ) (a : ℕ) → a < length right → get_or right a 0 < 2 ^ 128 → bit_or (get_or left a 0) (get_or right a 0) ≢ get_or right a 0 → HasNew left right
new_at left right a there fits apart = record {
  place = a;
  there = there;
  fits = fits;
  rises = let low = le_or_r (get_or left a 0) (get_or right a 0) in omega (arith, low, apart);
}
