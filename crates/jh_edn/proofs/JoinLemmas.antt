-- Elements read one by one are the elements of the whole text.
use Rattle.std.proofs.Common.{◌≡◌, ℕ, ◌-◌, List, [], ◌∷◌, ◌++◌, length, drop, refl, sym, ap, subst, ◌∙◌, append_assoc}
use Rattle.std.specs.Str.{IsUtf8}
use Rattle.std.proofs.lemmas.List.{append-nil}
use Rattle.jh_edn.specs.declared.error.EdnError.{EdnError}
use Rattle.jh_edn.specs.declared.syntax_error.SyntaxErrorKind.{SyntaxErrorKind}
use Rattle.jh_edn.specs.declared.syntax_error.SyntaxErrorKind.TheVariants.{UnexpectedEnd, BadToken, FloatUnsupported, IntegerRange, BadEscape, OddMap, DuplicateKey, TooDeep}
use Rattle.jh_edn.specs.Edn.{Edn}
use Rattle.jh_edn.specs.Spelling.{IsGap, SpellsAll, Reads, NothingReads}
use Rattle.jh_edn.specs.Reading.{error_at, IsFirstErrorAt, line_at, IsReached, IsErrorBehind}
use Rattle.jh_edn.specs.Refused.{SpellsNothing, RefusesText, IsFirstIfInText}
use Rattle.jh_edn.proofs.ReadAtLemmas.{no_gap, one_next, made}

-- whatever the rest is spelled as, these stand before it
abbrev pub Before : List Edn → List ℕ → ℕ → Type 0
Before xs text at = (ys : List Edn) → SpellsAll ys (drop at text) → SpellsAll (xs ++ ys) text

-- whatever the text is spelled as, it begins with these
abbrev pub Behind : List Edn → List ℕ → ℕ → Type 0
Behind xs text at = (ys : List Edn) → SpellsAll ys text → (zs : List Edn) × (ys ≡ xs ++ zs) × SpellsAll zs (drop at text)

pub before_none : (text : List ℕ) → Before [] text 0
before_none text = λ ys h. h

pub behind_none : (text : List ℕ) → Behind [] text 0
behind_none text = λ ys h. (ys, refl, h)

pub before_more : (xs : List Edn) (text : List ℕ) (at : ℕ) (x : Edn) (end : ℕ) → Before xs text at → Reads text at x end → Before (xs ++ x ∷ []) text end
before_more xs text at x end h r = λ ys rest. subst (λ (w : List Edn). SpellsAll w text) (sym (append_assoc xs (x ∷ []) ys)) (h (x ∷ ys) (drop end text, r.1, rest))

pub before_all : (xs : List Edn) (text : List ℕ) (at : ℕ) → Before xs text at → IsGap (drop at text) → SpellsAll xs text
before_all xs text at h g = subst (λ (w : List Edn). SpellsAll w text) (append-nil xs) (h [] g)

-- what is read next is the first of the values spelled
shed : (text : List ℕ) (at : ℕ) (x : Edn) (end : ℕ) → Reads text at x end → (zs : List Edn) → SpellsAll zs (drop at text) → (rest : List Edn) × (zs ≡ x ∷ rest) × SpellsAll rest (drop end text)
shed text at x end r [] h = absurd (no_gap (drop at text) x (drop end text) r.1 h)
shed text at x end r (z ∷ zs) h =
    let p = one_next (drop at text) z x h.0 (drop end text) h.1 r.1 in
    (zs, λ i. p.0 i ∷ zs, subst (SpellsAll zs) p.1 h.2)

pub behind_more : (xs : List Edn) (text : List ℕ) (at : ℕ) (x : Edn) (end : ℕ) → Behind xs text at → Reads text at x end → Behind (xs ++ x ∷ []) text end
behind_more xs text at x end h r = λ ys spelled.
    let p = h ys spelled in
    let q = shed text at x end r p.0 p.2 in
    (q.0, p.1 ∙ ap (λ (w : List Edn). xs ++ w) q.1 ∙ sym (append_assoc xs (x ∷ []) q.0), q.2)

nothing_spelled : (text : List ℕ) (at : ℕ) → NothingReads text at → (zs : List Edn) → SpellsAll zs (drop at text) → ⊥
nothing_spelled text at h [] s = h.0 s
nothing_spelled text at h (z ∷ zs) s = h.1 z (length text - length s.0) (made text at z s.0 s.1)

pub spells_nothing : (xs : List Edn) (text : List ℕ) (at : ℕ) → IsUtf8 text → Behind xs text at → NothingReads text at → SpellsNothing text
spells_nothing xs text at utf8 behind h = (utf8, λ ys spelled. let p = behind ys spelled in nothing_spelled text at h p.0 p.2)

-- each kind's error is one with a line
with_line : (text : List ℕ) (kind : SyntaxErrorKind) (line : ℕ)
    → (SpellsNothing text → RefusesText text (error_at kind line)) × (IsErrorBehind text (error_at kind line) → IsFirstIfInText text (error_at kind line))
with_line text UnexpectedEnd line = (λ h. h, λ h. h)
with_line text BadToken line = (λ h. h, λ h. h)
with_line text FloatUnsupported line = (λ h. h, λ h. h)
with_line text IntegerRange line = (λ h. h, λ h. h)
with_line text BadEscape line = (λ h. h, λ h. h)
with_line text OddMap line = (λ h. h, λ h. h)
with_line text DuplicateKey line = (λ h. h, λ h. h)
with_line text TooDeep line = (λ h. h, λ h. h)

pub refuses : (text : List ℕ) (at : ℕ) (e : EdnError) → SpellsNothing text → IsFirstErrorAt text at e → RefusesText text e
refuses text at e h f = subst (RefusesText text) (sym f.is) ((with_line text f.found.kind _).0 h)

pub first_behind : (text : List ℕ) (at : ℕ) (e : EdnError) → IsReached text at → IsFirstErrorAt text at e → IsFirstIfInText text e
first_behind text at e reached f =
    let behind : IsErrorBehind text (error_at f.found.kind (line_at text f.found.left)) = subst (IsErrorBehind text) f.is (at, reached, f) in
    subst (IsFirstIfInText text) (sym f.is) ((with_line text f.found.kind _).1 behind)

-- a text spells at most one list of values
pub once : (text : List ℕ) (xs ys : List Edn) → SpellsAll xs text → SpellsAll ys text → xs ≡ ys
once text [] [] h k = refl
once text [] (y ∷ ys) h k = absurd (no_gap text y k.0 k.1 h)
once text (x ∷ xs) [] h k = absurd (no_gap text x h.0 h.1 k)
once text (x ∷ xs) (y ∷ ys) h k =
    let p = one_next text x y h.0 k.0 h.1 k.1 in
    let below = once h.0 xs ys h.2 (subst (SpellsAll ys) (sym p.1) k.2) in
    λ i. p.0 i ∷ below i
