-- Laws of reading a text's lines one after the other. Assumes nothing.
use Rattle.std.specs.Prelude.{Result, Ok, Err, ⊤}
use Rattle.refusals.specs.Refusals.{at}
use Rattle.refusals.specs.declared.Reason.{Reason}
use Rattle.refusals.specs.declared.Reason.TheVariants.{UnknownKind, Crowded, Misspelt, Overlong}
use Rattle.refusals.specs.declared.Refusal.{Refusal}
use Prim.Native.Nat.{ℕ, suc, ◌+◌, ◌*◌, ◌/◌, ◌≤◌, ◌<◌}
use mathlib.Core.Bool.{Bool, true, false, cond, ◌&&◌, not}
use mathlib.Core.List.{List, [], ◌∷◌, ◌++◌, append-nil}
use mathlib.Core.Path.{◌≡◌, refl, sym, ap, ◌∙◌}
use native.Mathlib.Omega.{arith}
use native.Mathlib.Numerals.{add-one}
use lib.Dec.{ltb, eqb}
use lib.ListN.{length, get_or, drop, length-append, length-replicate, length-map}
use lib.Seq.{sets, length-sets, sets-eq}
use lib.IntN.{ℤ}
use borrow.Author.Tests.{lt-ltb, le-ltb, ltb-true, eqb-true, ne_eqb}
use Rattle.loops.specs.Lists.{is_empty}
use Rattle.loops.specs.Numbers.{to_nat}
use Rattle.rows.specs.Table.{width}
use Rattle.text_fields.specs.Parts.{parts, on_first}
use Rattle.text_line.specs.Line.{by_kind, fields_of, spelled, value_of, line_of, row_of}
use Rattle.text.specs.inner.Stored.{rows_read, on_row}
use Rattle.text.specs.Text.{answer_from, rows_of, rows_after, after_line, answer_of}
use Rattle.refusals.proofs.AnswerLaws.{no_accept, same_count}
use Rattle.rows.proofs.Tables.{width_most}
use Rattle.text_line.proofs.LineLaws.{no_row}
use Rattle.loops.proofs.StoreLaws.{sets_append}
use Rattle.loops.proofs.ListLaws.{none_ahead}
use Rattle.text_fields.proofs.PartLaws.{parts_first, parts_count}

-- ---- a row has ten numbers

some_columns : (k n : ℕ) → by_kind k n ≡ (Ok tt) → n ≤ 10
some_columns k n e = go (ltb 0 k && ltb k 25) (eqb n (suc (width k))) refl e
  where
    go : (a t : Bool) → eqb n (suc (width k)) ≡ t → ◌≡◌ {A = Result Unit Reason} (cond a (cond t (Ok tt) (Err Misspelt)) (Err UnknownKind)) (Ok tt) → n ≤ 10
    go true true q e = omega (arith, width_most k, eqb-true n (suc (width k)) q)
    go true false q e = absurd (no_row e)
    go false t q e = absurd (no_row e)

few_fields : (l : List ℕ) → line_of l ≡ (Ok tt) → length (fields_of l) ≤ 10
unfolding line_of
few_fields l e = go (spelled (fields_of l) && not (is_empty (get_or (fields_of l) 0 []))) e
  where
    go : (t : Bool) → cond t (by_kind (to_nat (value_of (get_or (fields_of l) 0 []))) (length (fields_of l))) (Err Misspelt) ≡ (Ok tt) → length (fields_of l) ≤ 10
    go true q = some_columns (to_nat (value_of (get_or (fields_of l) 0 []))) (length (fields_of l)) q
    go false q = absurd (no_row q)

pub row_long : (l : List ℕ) → line_of l ≡ (Ok tt) → length (row_of l) ≡ 10
unfolding row_of
row_long l e = simp (length-append, length-map, length-replicate) (omega (arith, few_fields l e))

-- ---- the lines

-- none of the parts is longer than n bytes
abbrev Within : ℕ → List (List ℕ) → Type 0
Within n [] = ⊤
Within n (p ∷ ps) = (length p ≤ n) × Within n ps

within_more : (m n : ℕ) (ps : List (List ℕ)) → m ≤ n → Within m ps → Within n ps
within_more m n [] l w = tt
within_more m n (p ∷ ps) l w = (omega (arith, w.0), within_more m n ps l w.1)

parts_within : (b : ℕ) (xs : List ℕ) → Within (length xs) (parts b xs)
unfolding parts
parts_within b [] = (omega arith, tt)
parts_within b (x ∷ xs) = go (eqb x b) (parts b xs) (parts_within b xs)
  where
    go : (t : Bool) (ps : List (List ℕ)) → Within (length xs) ps → Within (suc (length xs)) (cond t ([] ∷ ps) (on_first x ps))
    go true ps w = (omega arith, within_more (length xs) (suc (length xs)) ps (omega arith) w)
    go false [] w = (omega arith, tt)
    go false (p ∷ ps) w = (omega (arith, w.0), within_more (length xs) (suc (length xs)) ps (omega arith) w.1)

-- where the lines before place were read to the rows, and a part and those after it are left of the text
pub record LinesRead (text : List ℕ) (lent : ℕ) (rows₀ rows : List ℤ) (line : List ℕ) (left : List (List ℕ)) (place : ℕ) : Type 0 where
  pub answer : answer_from lent place (line ∷ left) ≡ answer_from lent 0 (parts 10 text)
  pub stores : sets rows (place * 10) (rows_read lent place (line ∷ left)) ≡ sets rows₀ 0 (rows_read lent 0 (parts 10 text))
  pub few : place + length left ≤ length text
  pub short : Within (length text) (line ∷ left)
  pub long : length rows ≡ length rows₀

pub lines_none : (text : List ℕ) (lent : ℕ) (rows : List ℤ) {line : List ℕ} {left : List (List ℕ)} → parts 10 text ≡ line ∷ left → LinesRead text lent rows rows line left 0
lines_none text lent rows e = record {
  answer = rw e;
  stores = rw e;
  few = omega (arith, parts_count 10 text, ap length e);
  short = rw e at (parts_within 10 text);
  long = refl;
}

-- a text has a part
pub some_part : (text : List ℕ) → parts 10 text ≡ [] → ⊥
some_part text e = let p = parts_first 10 text in let z : ◌≡◌ {A = ℕ} 0 (suc (length p.0)) = ap length (sym e ∙ p.1) in omega arith

is_nil : (l : List ℕ) → eqb (length l) 0 ≡ is_empty l
is_nil [] = refl
is_nil (x ∷ l) = ne_eqb (suc (length l)) 0 (λ e. omega arith)

module _ (text : List ℕ) (lent : ℕ) (rows₀ rows : List ℤ) (line : List ℕ) (left : List (List ℕ)) (place : ℕ) (w : LinesRead text lent rows₀ rows line left place) where
  -- no part follows
  module _ (n : left ≡ []) where
    pub end_rows : rows ≡ sets rows₀ 0 (rows_read lent 0 (parts 10 text))
    unfolding rows_read
    end_rows = rw n at w.stores

    module _ {b : Bool} (e : b ≡ eqb (length line) 0) where
      pub end_answer : b ≡ true → Ok place ≡ answer_from lent 0 (parts 10 text)
      unfolding answer_from
      end_answer t = rw (n, sym (is_nil line), sym e ∙ t) at w.answer

      pub open_answer : {x : Refusal} → x ≡ at Misspelt place → b ≡ false → Err x ≡ answer_from lent 0 (parts 10 text)
      unfolding answer_from
      open_answer a t = rw a (rw (n, sym (is_nil line), sym e ∙ t) at w.answer)

  -- another does: the part is a line
  module _ {next : List ℕ} {more : List (List ℕ)} (n : left ≡ next ∷ more) {x : Result Unit Reason} (j : x ≡ line_of line) where
    pub wrong_answer : (k : Reason) {e : Refusal} → e ≡ at k place → x ≡ Err k → Err e ≡ answer_from lent 0 (parts 10 text)
    unfolding answer_from
    wrong_answer k a q = rw a (rw (n, sym j ∙ q) at w.answer)

    pub full_answer : {e : Refusal} → e ≡ at Crowded place → x ≡ Ok tt → lent ≤ place → Err e ≡ answer_from lent 0 (parts 10 text)
    unfolding answer_from
    full_answer a q k = rw a (rw (n, sym j ∙ q, le-ltb place lent k) at w.answer)

    module _ {rows' : List ℤ} (s : rows' ≡ sets rows (place * 10) (row_of line)) where
      pub wrong_rows : (k : Reason) → x ≡ Err k → rows' ≡ sets rows₀ 0 (rows_read lent 0 (parts 10 text))
      unfolding rows_read
      wrong_rows k q = s ∙ (rw (n, sym j ∙ q, append-nil (row_of line)) at w.stores)

      pub full_rows : x ≡ (Ok tt) → lent ≤ place → rows' ≡ sets rows₀ 0 (rows_read lent 0 (parts 10 text))
      unfolding rows_read
      full_rows q k = s ∙ (rw (n, sym j ∙ q, le-ltb place lent k, append-nil (row_of line)) at w.stores)

      pub lines_more : x ≡ (Ok tt) → place < lent → LinesRead text lent rows₀ rows' next more (place + 1)
      unfolding answer_from rows_read
      lines_more q k =
          let r = row_of line in
          let i : (place + 1) * 10 ≡ place * 10 + length r = omega (arith, row_long line (sym j ∙ q)) in
          record {
            answer = rw (add-one place) (rw (n, sym j ∙ q, lt-ltb place lent k) at w.answer);
            stores =
                rw (s, i, add-one place)
                (sets_append rows (place * 10) r (rows_read lent (suc place) (next ∷ more))
                ∙ (rw (n, sym j ∙ q, lt-ltb place lent k) at w.stores));
            few = omega (arith, w.few, ap length n);
            short = rw n at w.short.1;
            long = ap length s ∙ length-sets rows (place * 10) r ∙ w.long;
          }

-- ---- an accepted text

-- all of its rows are read, and they are as many as the answer says
pub accepted_rows : (lent p : ℕ) (ps : List (List ℕ)) (n : ℕ) → p ≤ lent → answer_from lent p ps ≡ Ok n
    → (p * 10 + length (rows_of ps) ≡ n * 10) × (n ≤ lent) × (rows_read lent p ps ≡ rows_of ps)
unfolding answer_from rows_of rows_read
accepted_rows lent p [] n h e = let q = same_count e in (omega arith, omega arith, refl)
accepted_rows lent p (l ∷ []) n h e = go (is_empty l) e
  where
    go : (t : Bool) → cond t (Ok p) (Err (at Misspelt p)) ≡ Ok n → (p * 10 + 0 ≡ n * 10) × (n ≤ lent) × (◌≡◌ {A = List ℤ} [] [])
    go true e = let q = same_count e in (omega arith, omega arith, refl)
    go false e = absurd (no_accept e)
accepted_rows lent p (l ∷ m ∷ ls) n h e = go (line_of l) refl (ltb p lent) refl e (accepted_rows lent (suc p) (m ∷ ls) n)
  where
    go : (x : Result Unit Reason) → line_of l ≡ x → (t : Bool) → ltb p lent ≡ t → after_line x p (cond t (answer_from lent (suc p) (m ∷ ls)) (Err (at Crowded p))) ≡ Ok n
        → (suc p ≤ lent → answer_from lent (suc p) (m ∷ ls) ≡ Ok n → (suc p * 10 + length (rows_of (m ∷ ls)) ≡ n * 10) × (n ≤ lent) × (rows_read lent (suc p) (m ∷ ls) ≡ rows_of (m ∷ ls)))
        → (p * 10 + length (row_of l ++ rows_of (m ∷ ls)) ≡ n * 10) × (n ≤ lent)
        × (row_of l ++ on_row x (cond t (rows_read lent (suc p) (m ∷ ls)) []) ≡ row_of l ++ rows_of (m ∷ ls))
    go (Ok tt) q true t e k =
        let w = k (ltb-true p lent t) e in
        (simp length-append (omega (arith, row_long l q, w.0)), w.1, ap (λ (zs : List ℤ). row_of l ++ zs) w.2)
    go (Ok tt) q false t e k = absurd (no_accept e)
    go (Err i) q t u e k = absurd (no_accept e)

accepted_stored : (rows : List ℤ) (ps : List (List ℕ)) (n : ℕ) → answer_from (length rows / 10) 0 ps ≡ Ok n
    → sets rows 0 (rows_read (length rows / 10) 0 ps) ≡ rows_of ps ++ drop (10 * n) rows
accepted_stored rows ps n e =
    let w = accepted_rows (length rows / 10) 0 ps n (omega arith) e in
    let i : 0 + length (rows_of ps) ≡ 10 * n = omega (arith, w.0) in
    rw w.2 (sets-eq (rows_of ps) rows 0 (omega (arith, w.0, w.1)) ∙ ap (λ (k : ℕ). rows_of ps ++ drop k rows) i)

-- ---- the two readings

pub long_text : (text : List ℕ) (lent : ℕ) {e : Refusal} → e ≡ at Overlong 0 → 65536 < length text → Err e ≡ answer_of text lent
unfolding answer_of
long_text text lent a h = rw (a, lt-ltb 65536 (length text))

pub long_rows : (text : List ℕ) (lent : ℕ) (rows : List ℤ) → 65536 < length text → rows ≡ rows_after (answer_of text lent) text rows
long_rows text lent rows h = ap (λ (a : Result ℕ Refusal). rows_after a text rows) (long_text text lent refl h)

module _ (text : List ℕ) (rows : List ℤ) (h : length text ≤ 65536) {a : Result ℕ Refusal} (e : a ≡ answer_from (length rows / 10) 0 (parts 10 text)) where
  pub short_answer : a ≡ answer_of text (length rows / 10)
  unfolding answer_of
  short_answer = rw (le-ltb 65536 (length text)) e

  -- the first reading is lent none of the rows, and so leaves them as they were
  module _ (none : List ℤ) (n : length none ≡ 0) where
    pub refused_rows : (e : Refusal) → a ≡ Err e → none ++ rows ≡ rows_after (answer_of text (length rows / 10)) text rows
    refused_rows k r = none_ahead none rows n ∙ ap (λ (a : Result ℕ Refusal). rows_after a text rows) (sym r ∙ short_answer)

    pub read_rows : (m : ℕ) → a ≡ Ok m → {rows' : List ℤ} → rows' ≡ sets (none ++ rows) 0 (rows_read (length rows / 10) 0 (parts 10 text))
        → rows' ≡ rows_after (answer_of text (length rows / 10)) text rows
    read_rows m r s =
        s ∙ ap (λ (l : List ℤ). sets l 0 (rows_read (length rows / 10) 0 (parts 10 text))) (none_ahead none rows n)
        ∙ accepted_stored rows (parts 10 text) m (sym e ∙ r) ∙ ap (λ (a : Result ℕ Refusal). rows_after a text rows) (sym r ∙ short_answer)
