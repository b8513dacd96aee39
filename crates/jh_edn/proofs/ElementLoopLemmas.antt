-- Reading elements one after the other, as a loop does.
use Rattle.std.proofs.Common.{◌≡◌, ℕ, zero, suc, ◌-◌, ◌≤◌, ◌<◌, true, false, cond, eqb, List, [], ◌∷◌, ◌++◌, length, drop, get_or, Option, Some, None, Result, Ok, Err, inl, inr, refl, sym, ap, ◌∙◌, arith}
use Rattle.std.specs.Prelude.{◌≢◌}
use Rattle.std.proofs.lemmas.List.{length-drop, append-nil}
use Rattle.std.proofs.lemmas.Bool.{eqb-false, ne_eqb, true_from_ne_false}
use Rattle.std.specs.Str.{IsUtf8, IsCharBoundary}
use Rattle.std.proofs.lemmas.Str.{IsCharBoundary-after_ascii}
use Rattle.jh_edn.specs.declared.syntax_error.SyntaxError.{SyntaxError}
use Rattle.jh_edn.specs.declared.syntax_error.ReadError.{ReadError}
use Rattle.jh_edn.specs.declared.syntax_error.ReadError.TheVariants as errors
use Rattle.jh_edn.specs.declared.syntax_error.SyntaxErrorKind.TheVariants.{UnexpectedEnd, TooDeep}
use Rattle.jh_edn.specs.Edn.{Edn}
use Rattle.jh_edn.specs.Bytes.{underscore, semicolon, line_feed, is_space, begins_discard}
use Rattle.jh_edn.specs.Gives.{Fails}
use Rattle.jh_edn.specs.Reading.{◌>>=◌, syntax_error, read_with_front, Read, DeeperReads, text_after_blank, text_after_comment, gap_step, gap_turns, items_step, items, deeper_reads, gap, read}
use Rattle.jh_edn.specs.Sequences.{one_item, item_step, item_or_end}
use Rattle.jh_edn.proofs.StringBodyLemmas.{read_with_front-append}
use Rattle.jh_edn.proofs.ReadTokenLemmas.{chosen, done, ok_is, bind_ok, err_not}
use Rattle.jh_edn.proofs.ReadSpelledLemmas.{discard_is, sound, gap_sound, read_sound}
use Rattle.jh_edn.proofs.SpelledReadsLemmas as complete

same_eqb : (a b : ℕ) → a ≡ b → eqb a b ≡ true
same_eqb a b e = true_from_ne_false (eqb a b) (λ f. eqb-false a b f e)

-- ---- what stands next inside a bracket

module _ (close : ℕ) (value : Read Edn) where
  step_end : (here : List ℕ) → length here ≡ 0 → item_step close value here ≡ syntax_error UnexpectedEnd []
  step_end [] e = refl
  step_end (c ∷ s) e = absurd (omega arith)

  step_close : (here : List ℕ) → 0 < length here → get_or here 0 0 ≡ close → item_step close value here ≡ Ok (None, drop 1 here)
  step_close [] lt e = absurd (omega arith)
  step_close (c ∷ s) lt e = let t : eqb c close ≡ true = same_eqb c close e in rw t refl

  step_more : (here : List ℕ) → 0 < length here → get_or here 0 0 ≢ close → item_step close value here ≡ (value here >>= one_item)
  step_more [] lt e = absurd (omega arith)
  step_more (c ∷ s) lt e = let t : eqb c close ≡ false = ne_eqb c close e in rw t refl

module _ (close depth : ℕ) (left : List ℕ) where
  -- the error is in the gap
  pub stuck : (e : ReadError) → Fails e (gap depth left) → Fails e (item_or_end close depth left)
  stuck errors.Memory h = tt
  stuck (errors.Syntax f) h = rw h refl

  module _ (here : List ℕ) (is : gap depth left ≡ Ok here) where
    found : item_or_end close depth left ≡ item_step close (read depth) here
    found = ap (λ w. w >>= item_step close (read depth)) is

    pub ends : length here ≡ 0 → item_or_end close depth left ≡ syntax_error UnexpectedEnd []
    ends e = found ∙ step_end close (read depth) here e

    pub closes : 0 < length here → get_or here 0 0 ≡ close → item_or_end close depth left ≡ Ok (None, drop 1 here)
    closes some e = found ∙ step_close close (read depth) here some e

    pub fails : (e : ReadError) → 0 < length here → get_or here 0 0 ≢ close → Fails e (read depth here) → Fails e (item_or_end close depth left)
    fails errors.Memory some other h = tt
    fails (errors.Syntax f) some other h = found ∙ step_more close (read depth) here some other ∙ ap (λ w. w >>= one_item) h

    pub is_element : (x : Edn) (after : List ℕ) → 0 < length here → get_or here 0 0 ≢ close → read depth here ≡ Ok (x, after) → item_or_end close depth left ≡ Ok (Some x, after)
    is_element x after some other h = found ∙ step_more close (read depth) here some other ∙ ap (λ w. w >>= one_item) h

-- ---- and then the elements behind it

-- and then what more gives
abbrev and_more : Read (List Edn) → Option Edn → Read (List Edn)
and_more more None s = Ok ([], s)
and_more more (Some x) s = read_with_front (x ∷ []) (more s)

value_then : (more : Read (List Edn)) (r : Result (Edn × List ℕ) SyntaxError)
    → (r >>= λ x. read_with_front (x.0 ∷ []) (more x.1)) ≡ ((r >>= one_item) >>= λ x. and_more more x.0 x.1)
value_then more (Ok x) = refl
value_then more (Err f) = refl

step_then : (close : ℕ) (value : Read Edn) (more : Read (List Edn)) (here : List ℕ) → items_step close value more here ≡ (item_step close value here >>= λ x. and_more more x.0 x.1)
step_then close value more [] = refl
step_then close value more (c ∷ s) =
    elim (eqb c close) as (λ b. cond b (Ok ([], s)) (value (c ∷ s) >>= λ x. read_with_front (x.0 ∷ []) (more x.1))
    ≡ (cond b (Ok (None, s)) (value (c ∷ s) >>= one_item) >>= λ x. and_more more x.0 x.1)) [
      | true ↦ refl
      | false ↦ value_then more (value (c ∷ s))
    ]

skip_then : (close depth : ℕ) (more : Read (List Edn)) (r : Result (List ℕ) SyntaxError)
    → (r >>= items_step close (read depth) more) ≡ ((r >>= item_step close (read depth)) >>= λ x. and_more more x.0 x.1)
skip_then close depth more (Ok here) = step_then close (read depth) more here
skip_then close depth more (Err f) = refl

module _ (close depth : ℕ) where
  opened : (n : ℕ) (left : List ℕ) → length left < n → items close (gap depth) (read depth) n left ≡ (item_or_end close depth left >>= λ x. and_more (items close (gap depth) (read depth) (n - 1)) x.0 x.1)
  unfolding items
  opened zero left lt = absurd (omega arith)
  opened (suc n) left lt = let k : suc n - 1 ≡ n = omega arith in rw k (skip_then close depth (items close (gap depth) (read depth) n) (gap depth left))

  module _ (front : List Edn) (n : ℕ) (left : List ℕ) (total : Result (List Edn × List ℕ) SyntaxError) (lt : length left < n) (so_far : read_with_front front (items close (gap depth) (read depth) n left) ≡ total) where
    before : (next : Result (Option Edn × List ℕ) SyntaxError) → item_or_end close depth left ≡ next → total ≡ read_with_front front (next >>= λ x. and_more (items close (gap depth) (read depth) (n - 1)) x.0 x.1)
    before next e = sym so_far ∙ ap (read_with_front front) (opened n left lt ∙ ap (λ w. w >>= λ x. and_more (items close (gap depth) (read depth) (n - 1)) x.0 x.1) e)

    pub all_fail : (e : ReadError) → Fails e (item_or_end close depth left) → Fails e total
    all_fail errors.Memory h = tt
    all_fail (errors.Syntax f) h = before (Err f) h

    pub all_read : (after : List ℕ) → item_or_end close depth left ≡ Ok (None, after) → total ≡ Ok (front, after)
    all_read after h = before (Ok (None, after)) h ∙ ap (λ (w : List Edn). Ok (w, after)) (append-nil front)

    pub goes : (x : Edn) (after : List ℕ) → item_or_end close depth left ≡ Ok (Some x, after) → read_with_front (front ++ x ∷ []) (items close (gap depth) (read depth) (n - 1) after) ≡ total
    goes x after h = sym (before (Ok (Some x, after)) h ∙ read_with_front-append front (x ∷ []) (items close (gap depth) (read depth) (n - 1) after))

module _ (deep : DeeperReads) (n : ℕ) (left here : List ℕ) (total : Result (List ℕ) SyntaxError) (lt : length left < n) (is : here ≡ text_after_blank left) (so_far : gap_turns deep n left ≡ total) where
  gap_opened : (m : ℕ) → length left < m → gap_turns deep m left ≡ gap_step deep (gap_turns deep (m - 1)) (text_after_blank left)
  unfolding gap_turns
  gap_opened zero l = absurd (omega arith)
  gap_opened (suc m) l = let k : suc m - 1 ≡ m = omega arith in rw k refl

  gap_here : total ≡ gap_step deep (gap_turns deep (n - 1)) here
  gap_here = sym so_far ∙ gap_opened n lt ∙ ap (gap_step deep (gap_turns deep (n - 1))) (sym is)

  pub gap_ends : begins_discard here ≡ false → total ≡ Ok here
  gap_ends e = gap_here ∙ rw e refl

  pub gap_fails : (e : ReadError) → begins_discard here ≡ true → Fails e (deep.one here (drop 2 here)) → Fails e total
  gap_fails errors.Memory b h = tt
  gap_fails (errors.Syntax f) b h = gap_here ∙ rw (b, h) refl

  pub gap_goes : (x : Edn) (after : List ℕ) → begins_discard here ≡ true → deep.one here (drop 2 here) ≡ Ok (x, after) → gap_turns deep (n - 1) after ≡ total
  gap_goes x after b h = sym (gap_here ∙ rw (b, h) refl)

mutual
  blank_lessens : (s : List ℕ) → length (text_after_blank s) ≤ length s
  blank_lessens [] = omega arith
  blank_lessens (c ∷ s) =
      elim (is_space c) as (λ b. length (cond b (text_after_blank s) (cond (eqb c semicolon) (text_after_comment s) (c ∷ s))) ≤ suc (length s)) [
        | true ↦ omega (arith, blank_lessens s)
        | false ↦ elim (eqb c semicolon) as (λ b. length (cond b (text_after_comment s) (c ∷ s)) ≤ suc (length s)) [ true ↦ omega (arith, comment_lessens s) | false ↦ omega arith ]
      ]

  comment_lessens : (s : List ℕ) → length (text_after_comment s) ≤ length s
  comment_lessens [] = omega arith
  comment_lessens (c ∷ s) = elim (eqb c line_feed) as (λ b. length (cond b (text_after_blank s) (text_after_comment s)) ≤ suc (length s)) [ true ↦ omega (arith, blank_lessens s) | false ↦ omega (arith, comment_lessens s) ]

pub gap_shorter : (depth : ℕ) (s here : List ℕ) → gap depth s ≡ Ok here → length here ≤ length s
gap_shorter depth s here e = complete.gap_shorter depth s here (gap_sound depth s here e)

pub read_shorter : (depth : ℕ) (s : List ℕ) (x : Edn) (r : List ℕ) → read depth s ≡ Ok (x, r) → length r < length s
read_shorter depth s x r e = complete.form_shorter depth x s r (read_sound depth s x r e)

no_element : (x : Edn) (a b : Option Edn × List ℕ) → done a ≡ done b → a.0 ≡ None → b.0 ≡ Some x → ⊥
no_element x a b e none some = let bad : None ≡ Some x = sym none ∙ ap (λ (w : Option Edn × List ℕ). w.0) (ok_is a b e) ∙ some in cc

step_shorter : (close depth : ℕ) (here : List ℕ) (x : Edn) (after : List ℕ) → item_step close (read depth) here ≡ Ok (Some x, after) → length after < length here
step_shorter close depth [] x after e = absurd (err_not _ _ e)
step_shorter close depth (c ∷ s) x after e =
    elim (chosen (eqb c close) (Ok (None, s)) (read depth (c ∷ s) >>= one_item) (Ok (Some x, after)) e) [
      | inl p ↦ absurd (no_element x (None, s) (Some x, after) p.1 refl refl)
      | inr p ↦
          let q = bind_ok (read depth (c ∷ s)) one_item (Some x, after) p.1 in
          let rest : q.0.1 ≡ after = ap (λ (w : Option Edn × List ℕ). w.1) (ok_is (Some q.0.0, q.0.1) (Some x, after) q.2) in
          omega (arith, ap length rest, read_shorter depth (c ∷ s) q.0.0 q.0.1 q.1)
    ]

pub item_shorter : (close depth : ℕ) (left : List ℕ) (x : Edn) (after : List ℕ) → item_or_end close depth left ≡ Ok (Some x, after) → length after < length left
item_shorter close depth left x after e =
    let g = bind_ok (gap depth left) (item_step close (read depth)) (Some x, after) e in
    omega (arith, gap_shorter depth left g.0 g.1, step_shorter close depth g.0 x after g.2)

pub one_below : (depth : ℕ) (begin s : List ℕ) → 0 < depth → (deeper_reads depth).one begin s ≡ (gap (depth - 1) s >>= read (depth - 1))
unfolding deeper_reads
one_below zero begin s d = absurd (omega arith)
one_below (suc depth) begin s d = let k : suc depth - 1 ≡ depth = omega arith in rw k refl

pub elements_below : (depth close : ℕ) (begin s : List ℕ) → 0 < depth → (deeper_reads depth).elements close begin s ≡ items close (gap (depth - 1)) (read (depth - 1)) (suc (length s)) s
unfolding deeper_reads
elements_below zero close begin s d = absurd (omega arith)
elements_below (suc depth) close begin s d = let k : suc depth - 1 ≡ depth = omega arith in rw k refl

pub blank_shorter : (s here : List ℕ) → here ≡ text_after_blank s → length here ≤ length s
blank_shorter s here e = rw e (blank_lessens s)

pub one_shorter : (depth : ℕ) (begin s : List ℕ) (x : Edn) (r : List ℕ) → (deeper_reads depth).one begin s ≡ Ok (x, r) → length r < length s
one_shorter depth begin s x r e = (complete.ready depth).next_shorter s x r ((sound depth).one begin s x r e)

pub discard_shorter : (depth : ℕ) (s : List ℕ) (x : Edn) (r : List ℕ) → (deeper_reads depth).one s (drop 2 s) ≡ Ok (x, r) → length r < length s
discard_shorter depth s x r e = omega (arith, one_shorter depth s (drop 2 s) x r e, length-drop 2 s)

pub discard_boundary : (s : List ℕ) → IsUtf8 s → begins_discard s ≡ true → IsCharBoundary s 2
discard_boundary s utf8 h =
    let e = discard_is s h in
    let second : get_or s 1 0 ≡ underscore = ap (λ (w : List ℕ). get_or w 1 0) e in
    IsCharBoundary-after_ascii s 1 utf8 (omega (arith, ap length e)) (omega (arith, second))

pub elements_too_deep : (depth close : ℕ) (begin s : List ℕ) → depth ≡ 0 → (deeper_reads depth).elements close begin s ≡ syntax_error TooDeep begin
unfolding deeper_reads
elements_too_deep depth close begin s e = rw e refl

pub one_too_deep : (depth : ℕ) (begin s : List ℕ) → depth ≡ 0 → (deeper_reads depth).one begin s ≡ syntax_error TooDeep begin
unfolding deeper_reads
one_too_deep depth begin s e = rw e refl

pub stuck_one : (depth : ℕ) (s : List ℕ) (e : ReadError) → Fails e (gap depth s) → Fails e (gap depth s >>= read depth)
stuck_one depth s errors.Memory h = tt
stuck_one depth s (errors.Syntax f) h = rw h refl
