-- Of a text, what stands before another; of bytes, whether they are text; and what is left of room that was blank. Assumes nothing.
use Rattle.std.proofs.Common.{◌≡◌, ℕ, zero, suc, ◌+◌, ◌-◌, ◌<◌, ◌≤◌, Bool, true, false, Bor, Option, None, Some, MatchOption, List, [], ◌∷◌, ◌++◌, length, take, drop, replicate, nat_eq, refl, sym, ap, ◌∙◌, arith, drop-drop}
use Rattle.std.proofs.lemmas.Bool.Decides.{Decides-eqb}
use Rattle.std.proofs.lemmas.List.{drop-replicate}
use borrow.Rule.Slice.PartMut.{put_mid}
use Rattle.std.proofs.lemmas.Slice.{drop-put_mid}
use Rattle.std.proofs.lemmas.Slice.Eq.{starts_is}
use Rattle.std.proofs.lemmas.Str.{is_utf8-from_IsUtf8, IsUtf8-from_is_utf8}
use Rattle.std.specs.List.{starts_with}
use Rattle.std.specs.Str.{IsUtf8, is_utf8}
use Rattle.std.specs.Str.Pattern.{FindsText, LacksTextAt, SplitsAroundMatch}
use Rattle.program_io.specs.Reason.{before_text, text_of}

not_true : (b : Bool) → (b ≡ true → ⊥) → b ≡ false
not_true true h = absurd (h refl)
not_true false h = refl

starts_there : (s p rest : List ℕ) → s ≡ p ++ rest → starts_with nat_eq s p ≡ true
starts_there s p rest e = (starts_is Decides-eqb s p (starts_with nat_eq s p) refl).1 rest e

starts_elsewhere : (s p : List ℕ) → LacksTextAt p s 0 → starts_with nat_eq s p ≡ false
starts_elsewhere s p h = not_true _ (λ y. h _ ((starts_is Decides-eqb s p (starts_with nat_eq s p) refl).0 y))

before_none : (s p : List ℕ) → ((i : ℕ) → i ≤ length s → LacksTextAt p s i) → before_text s p ≡ s
unfolding before_text
before_none [] p h = refl
before_none (x ∷ xs) p h = rw (starts_elsewhere (x ∷ xs) p (h 0 (omega arith))) (ap (λ t. x ∷ t) (before_none xs p (λ i l. h (suc i) (omega (arith, l)))))

before_found : (s p rest : List ℕ) (i : ℕ) → ((j : ℕ) → j < i → LacksTextAt p s j) → drop i s ≡ p ++ rest → before_text s p ≡ take i s
unfolding before_text
before_found [] p rest zero h e = refl
before_found [] p rest (suc i) h e = refl
before_found (x ∷ xs) p rest zero h e = rw (starts_there (x ∷ xs) p rest e) refl
before_found (x ∷ xs) p rest (suc i) h e =
    rw (starts_elsewhere (x ∷ xs) p (h 0 (omega arith))) (ap (λ t. x ∷ t) (before_found xs p rest i (λ j l. h (suc j) (omega (arith, l))) e))

-- what std's `split_once` gives at a text
abbrev pub Splits : List ℕ → List ℕ → Option (Bor (List ℕ) × Bor (List ℕ)) → Type 0
Splits s p r = MatchOption r (FindsText p s None) (λ x. SplitsAroundMatch (FindsText p) s x.0.now x.1.now)

pub found : (s p : List ℕ) (r : Option (Bor (List ℕ) × Bor (List ℕ))) → Splits s p r → (before after : Bor (List ℕ)) → r ≡ Some (before, after) → before.now ≡ before_text s p
found s p None h before after e = absurd (cc)
found s p (Some y) h before after e =
    let z : y ≡ (before, after) = cc in
    ap (λ (x : Bor (List ℕ) × Bor (List ℕ)). x.0.now) (sym z) ∙ h.3 ∙ sym (before_found s p (drop h.1 s) h.0 h.2.0 h.2.1.split)

pub found_nowhere : (s p : List ℕ) (r : Option (Bor (List ℕ) × Bor (List ℕ))) → Splits s p r → r ≡ None → s ≡ before_text s p
found_nowhere s p None h e = sym (before_none s p h)
found_nowhere s p (Some y) h e = absurd (cc)

pub is_text : (bytes : List ℕ) → IsUtf8 bytes → text_of bytes ≡ bytes
is_text bytes h = rw (is_utf8-from_IsUtf8 bytes h) refl

pub is_no_text : (bytes : List ℕ) → (IsUtf8 bytes → ⊥) → text_of bytes ≡ []
is_no_text bytes h = rw (not_true (is_utf8 bytes) (λ y. h (IsUtf8-from_is_utf8 bytes y))) refl

pub blank_left : (room text : List ℕ) (from taken : ℕ) → length room ≡ 256 → from + taken ≤ 256 → length text ≡ taken → drop from room ≡ replicate (256 - from) 0
    → drop (from + taken) (put_mid from (from + taken - from) room text) ≡ replicate (256 - (from + taken)) 0
blank_left room text from taken l h t e =
    drop-put_mid from (from + taken - from) room text (from + taken) (omega arith) (omega (arith, l, h)) (omega (arith, t))
    ∙ sym (drop-drop taken from room) ∙ ap (drop taken) e ∙ drop-replicate taken (256 - from) 0 ∙ ap (λ n. replicate n 0) (omega arith)
