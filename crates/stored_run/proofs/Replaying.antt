-- What was told and counted so far goes on to what is told and counted of all. Assumes nothing.
use Rattle.std.proofs.Common.{◌≡◌, ℕ, ◌+◌, ◌<◌, ◌≤◌, Bool, Bor, List, [], ◌∷◌, ◌++◌, length, get_or, take, drop, add-one, slice_range, Option, Some, Result, Ok, Err, IfOk, OnOk, refl, ap, arith, append_assoc, append-nil}
use Rattle.std.proofs.Math.Seq.{length-take-le, drop-cons}
use Rattle.std.proofs.lemmas.List.{drop_all}
use Rattle.std.specs.Io.KnownBytes.{Appends}
use Rattle.stored_lines.specs.declared.Case.{Case}
use Rattle.stored_lines.specs.inner.Case.{CaseAt}
use Rattle.stored_run.proofs.Appending.{appends_none, appends_then}
use Rattle.stored_run.specs.declared.Fault.{Fault}
use Rattle.stored_run.specs.declared.Gathered.{Gathered}
use Rattle.stored_run.specs.declared.Reads.{Reads}
use Rattle.stored_run.specs.declared.Run.{Run}
use Rattle.stored_run.specs.inner.Cases.{ComesOut}
use Rattle.stored_run.specs.Told.{told_case, told_unread, run_line}
use Rattle.stored_run.specs.inner.Replays.{Judged, AreJudged, told_cases, with_case, with_cases, ReplaysList, ReplaysFile, ReplaysFiles}

module _ (Judges : Gathered → Bool → Type 0) (reads : Reads) (name list : List ℕ) (before : Run) (old : Option (List ℕ)) where
  -- the cases before a place are told of, and counted: with those from there on it is what is told of the list
  pub record CasesSoFar (now : Option (List ℕ)) (at : ℕ) (run : Run) : Type 0 where
    pub told : List ℕ
    pub appended : Appends old now told
    pub onward : (js : List Judged) → AreJudged Judges reads list at js → ReplaysList Judges reads name list (told ++ told_cases name list js) before (with_cases run js)

  pub cases_begun : CasesSoFar old 0 before
  cases_begun = record { told = []; appended = appends_none old; onward = λ js a. (js, a, refl, refl) }

  pub cases_further : (now new : Option (List ℕ)) (at : ℕ) (run : Run) (c : Case) (o : Result Unit Fault) → CasesSoFar now at run → at < length list → CaseAt list at c
      → ComesOut Judges reads (slice_range list c.start c.end) (slice_range list c.start c.line) (slice_range list c.line c.end) o
      → Appends now new (told_case name list c.start o) → CasesSoFar new c.next (with_case run o)
  cases_further now new at run c o s h p q w = record {
    told = s.told ++ told_case name list c.start o;
    appended = appends_then old now new s.told (told_case name list c.start o) s.appended w;
    onward = λ js a. rw append_assoc (s.onward (record { case = c; outcome = o } ∷ js) (h, p, q, a));
  }

  pub cases_ended : (now : Option (List ℕ)) (at : ℕ) (run : Run) → CasesSoFar now at run → length list ≤ at
      → (told : List ℕ) × Appends old now told × ReplaysList Judges reads name list told before run
  cases_ended now at run s h = (s.told, s.appended, rw append-nil at (s.onward [] h))

-- a list that was read from a file
pub file_read : {E : Type 0} (Judges : Gathered → Bool → Type 0) (reads : Reads) (name bytes : List ℕ) (before : Run) (old now new : Option (List ℕ)) (n : ℕ) (r : Result Run E)
    → length bytes ≡ 262144 → n ≤ length bytes → Appends old now (told_unread name (length bytes) (Some n))
    → IfOk r (λ after. (told : List ℕ) × Appends now new told × ReplaysList Judges reads name (take n bytes) told before after)
    → IfOk r (λ after. (told : List ℕ) × Appends old new told × ReplaysFile Judges reads name told before after)
file_read Judges reads name bytes before old now new n (Err e) size within w x = tt
file_read Judges reads name bytes before old now new n (Ok after) size within w (told, x, y) =
    let l : length (take n bytes) ≡ n = length-take-le n bytes within in
    let u : told_unread name (length bytes) (Some n) ≡ told_unread name 262144 (Some (length (take n bytes))) = rw (size, l) refl in
    (told_unread name (length bytes) (Some n) ++ told, appends_then old now new _ _ w x, (Some (take n bytes), (rw l (omega (arith, within, size)), told, ap (λ (t : List ℕ). t ++ told) u, y)))

-- the files before a place are told of, and counted: with those from there on it is what is told of them all
module _ (Judges : Gathered → Bool → Type 0) (reads : Reads) (names : List (Bor (List ℕ))) (before : Run) (old : Option (List ℕ)) where
  pub record FilesSoFar (now : Option (List ℕ)) (i : ℕ) (run : Run) : Type 0 where
    pub told : List ℕ
    pub appended : Appends old now told
    pub onward : (rest : List ℕ) (after : Run) → ReplaysFiles Judges reads (drop i names) rest run after → ReplaysFiles Judges reads names (told ++ rest) before after

  pub files_begun : FilesSoFar old 0 before
  files_begun = record { told = []; appended = appends_none old; onward = λ rest after r. r }

  pub files_further : (now new : Option (List ℕ)) (i : ℕ) (run from next : Run) (none : Bor (List ℕ)) → FilesSoFar now i run → i < length names → from ≡ run
      → (told : List ℕ) × Appends now new told × ReplaysFile Judges reads (get_or names i none).now told from next → FilesSoFar new (i + 1) next
  files_further now new i run from next none s h e (told, w, f) = record {
    told = s.told ++ told;
    appended = appends_then old now new s.told told s.appended w;
    onward = λ rest after r. rw append_assoc (s.onward (told ++ rest) after (rw (drop-cons names i none h) (told, rest, next, refl, rw e at f, rw add-one at r)));
  }

  pub files_ended : {E : Type 0} (now new : Option (List ℕ)) (i : ℕ) (run : Run) (r : Result Unit E) → FilesSoFar now i run → length names ≤ i
      → OnOk r (Appends now new (run_line run))
      → OnOk r ((told : List ℕ) × (run : Run) × Appends old new (told ++ run_line run) × ReplaysFiles Judges reads names told before run)
  files_ended now new i run (Err e) s h w = tt
  files_ended now new i run (Ok u) s h w =
      let e : drop i names ≡ [] = drop_all i names h in
      (s.told, run, appends_then old now new s.told (run_line run) s.appended w, rw append-nil at (s.onward [] run (rw e (refl, refl))))
