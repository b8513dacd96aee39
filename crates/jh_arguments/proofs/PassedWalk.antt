-- The walk over words of which none fails: its rows pass, and it stops at no request for help.
use Rattle.std.proofs.Common.{◌≡◌, ◌&&◌, ℕ, zero, suc, Bool, cond, codes, true, false, not, refl, List, [], ◌∷◌, length, drop, Option, Some, None, is_some}
use Rattle.std.specs.Prelude.{encode_utf8, slice_get}
use Rattle.std.specs.List.{fold}
use Rattle.std.specs.Str.{bytes_eq, chars}
use Rattle.std.specs.Option.{option_map_or}
use Rattle.clap.specs.Lexer.{long_of, short_of}
use Rattle.clap.specs.Kinds.{Kinds, or_else}
use Rattle.clap.specs.declared.error.kind.ErrorKind.TheVariants as kind
use Rattle.clap.specs.Faults.{bundle_fault, bundle_step_fault, flags_fault, flag_word_fault, long_fault, option_fault, other_fault, positional_fault, react_fault, settle_fault, short_fault, step_fault, stray_fault, turn_fault, use_fault, walk_fault, word_fault}
use Rattle.clap.specs.Simple.{Shape}
use Rattle.clap.specs.Walk.{Held, Names, Outcome, Row, Rule, Step, Text, Waiting, Walk, idle, after_flag, after_step, arg_by_id, arg_by_index, arg_by_long, arg_by_short, attached_value, bundle, bundle_met, bundle_step, done, flag_met, is_pending, long_met, long_or_other, next, option, option_met, option_word, plain, plain_word, positional, pushed, reacted, refused, settled, short_met, short_or_plain, subcommand, subcommand_met, subcommand_or_other, takes_several, takes_values, to_positional, trailing, value, waits, walked, walked_from, word_met}
use Rattle.jh_arguments.proofs.PassedRows.{Each, IsOwn, Pass, found_has, none_of_both, settled_pass, used_pass}

-- what one of two steps leaves, where neither fails
one_of_two : (P : Held → Type 0) (b : Bool) (x y : Held × Outcome) (f g : Kinds) → cond b f g ≡ [] → (f ≡ [] → P x.0) → (g ≡ [] → P y.0) → P (cond b x y).0
one_of_two P true x y f g e left right = left e
one_of_two P false x y f g e left right = right e

-- ---- flags and options

module _ (c : List Rule) (own : Each (IsOwn c) c) (again : Bool) where
  settle_pass : (h : Held) → settle_fault c again h ≡ [] → Pass c h.rows → Pass c (settled c h).rows
  settle_pass h = settled_pass c again h.pending h.rows own

  react_pass : (a : Rule) (values : List Text) (h : Held) → IsOwn c a → react_fault c again a values h ≡ [] → Pass c h.rows → Pass c (reacted c a values h).rows
  react_pass a values h mine fault pass =
      let parts = none_of_both (settle_fault c again h) (use_fault again a values (settled c h).rows) fault in
      used_pass c again a values (settled c h).rows mine parts.1 (settle_pass h parts.0 pass)

  option_pass : (a : Rule) (v : Option Text) (h : Held) → IsOwn c a → option_fault c again a v h ≡ [] → Pass c h.rows → Pass c (option_met c a v h).0.rows
  option_pass a (Some v) h mine fault pass = react_pass a (v ∷ []) h mine fault pass
  option_pass a None h mine fault pass = settle_pass h fault pass

  flag_pass : (a : Rule) (v : Option Text) (h : Held) → IsOwn c a → (if_some : Kinds) → cond (is_some v) (kind.TooManyValues ∷ []) (react_fault c again a [] h) ≡ [] → Pass c h.rows
      → Pass c (flag_met c a v h).0.rows
  flag_pass a (Some v) h mine if_some fault pass = pass
  flag_pass a None h mine if_some fault pass = react_pass a [] h mine fault pass

  long_pass : (o : Option Rule) (v : Option Text) (h : Held) → ((a : Rule) → o ≡ Some a → IsOwn c a) → long_fault c again o v h ≡ [] → Pass c h.rows → Pass c (long_met c o v h).0.rows
  long_pass None v h mine fault pass = pass
  long_pass (Some a) v h mine fault pass =
      one_of_two (λ k. Pass c k.rows) (takes_values a) (option_met c a v h) (flag_met c a v h) (option_fault c again a v h) (cond (is_some v) (kind.TooManyValues ∷ []) (react_fault c again a [] h)) fault
      (λ e. option_pass a v h (mine a refl) e pass) (λ e. flag_pass a v h (mine a refl) [] e pass)

  short_pass : (o : Option Rule) (rest : Text) (h : Held) (go_on : Held → Held × Outcome) (go_fault : Held → Kinds) → ((a : Rule) → o ≡ Some a → IsOwn c a)
      → ((k : Held) → go_fault k ≡ [] → Pass c k.rows → Pass c (go_on k).0.rows)
      → short_fault c again o rest h go_fault ≡ [] → Pass c h.rows → Pass c (short_met c o rest h go_on).0.rows
  short_pass None rest h go_on go_fault mine then fault pass = pass
  short_pass (Some a) rest h go_on go_fault mine then fault pass =
      one_of_two (λ k. Pass c k.rows) (takes_values a) (option_met c a (attached_value rest) h) (go_on (reacted c a [] h)) (option_fault c again a (attached_value rest) h)
      (or_else (react_fault c again a [] h) (go_fault (reacted c a [] h))) fault
      (λ e. option_pass a (attached_value rest) h (mine a refl) e pass)
      (λ e.
      let parts = none_of_both (react_fault c again a [] h) (go_fault (reacted c a [] h)) e in
      then (reacted c a [] h) parts.1 (react_pass a [] h (mine a refl) parts.0 pass))

  step_pass : (x : Option ℕ) (flags : Text) (skip : ℕ) (so_far : Outcome) (h : Held) (go_on : Text → ℕ → Outcome → Held → Held × Outcome) (go_fault : Text → ℕ → Held → Kinds)
      → ((f : Text) (n : ℕ) (o : Outcome) (k : Held) → go_fault f n k ≡ [] → Pass c k.rows → Pass c (go_on f n o k).0.rows)
      → bundle_step_fault c again x flags skip h go_fault ≡ [] → Pass c h.rows → Pass c (bundle_step c x flags skip so_far h go_on).0.rows
  step_pass None flags skip so_far h go_on go_fault then fault pass = pass
  step_pass (Some x) flags zero so_far h go_on go_fault then fault pass =
      let rest = drop (length (encode_utf8 x)) flags in
      short_pass (arg_by_short c x) rest h (go_on rest 0 done) (go_fault rest 0) (found_has (IsOwn c) _ c own) (then rest 0 done) fault pass
  step_pass (Some x) flags (suc skip) so_far h go_on go_fault then fault pass = then (drop (length (encode_utf8 x)) flags) skip so_far h fault pass

  bundle_pass : (k : ℕ) (flags : Text) (skip : ℕ) (so_far : Outcome) (h : Held) → flags_fault c again k flags skip h ≡ [] → Pass c h.rows → Pass c (bundle_met c k flags skip so_far h).0.rows
  unfolding bundle_met flags_fault
  bundle_pass zero flags skip so_far h fault pass = pass
  bundle_pass (suc k) flags skip so_far h fault pass =
      step_pass (slice_get (chars flags) 0) flags skip so_far h (bundle_met c k) (flags_fault c again k) (bundle_pass k) fault pass

-- ---- one word

plain_rows : (c : List Rule) (P : List Row → Type 0) (waiting : Waiting) (word : Text) (h : Held) → P h.rows → P (plain_word c waiting word h).0.rows
plain_rows c P idle word h p = p
plain_rows c P positional word h p = p
plain_rows c P (option id) word h p = go (arg_by_id c id)
  where
    go : (o : Option Rule) → P (option_word o id word h).0.rows
    go None = p
    go (Some a) = p

flag_rows : (c : List Rule) (P : List Row → Type 0) (waiting : Waiting) (word : Text) (h : Held) (o : Outcome) → P h.rows → P (after_flag c waiting word h o).0.rows
flag_rows c P waiting word h done p = p
flag_rows c P waiting word h (waits id) p = p
flag_rows c P waiting word h plain p = plain_rows c P waiting word h p
flag_rows c P waiting word h refused p = plain_rows c P waiting word h p

-- a step enters no subcommand called help
abbrev pub IsNoHelp : Step → Type 0
IsNoHelp (subcommand name) = bytes_eq name (codes "help") ≡ false
IsNoHelp step = Unit {0}

plain_step : (c : List Rule) (waiting : Waiting) (word : Text) (h : Held) → IsNoHelp (plain_word c waiting word h).1
plain_step c idle word h = tt
plain_step c positional word h = tt
plain_step c (option id) word h = tt

flag_step : (c : List Rule) (waiting : Waiting) (word : Text) (h : Held) (o : Outcome) → IsNoHelp (after_flag c waiting word h o).1
flag_step c waiting word h done = tt
flag_step c waiting word h (waits id) = tt
flag_step c waiting word h plain = plain_step c waiting word h
flag_step c waiting word h refused = plain_step c waiting word h

module _ (s : Shape) (own : Each (IsOwn s.rules) s.rules) (names : Names) where
  long_or_other_pass : (waiting : Waiting) (word : Text) (p : Option (Text × Option Text)) (h : Held) → flag_word_fault s.rules s.args_override_self p word h ≡ []
      → Pass s.rules h.rows → Pass s.rules (long_or_other s.rules waiting word p h).0.rows
  long_or_other_pass waiting word (Some p) h fault pass =
      flag_rows s.rules (Pass s.rules) waiting word (long_met s.rules (arg_by_long s.rules p.0) p.1 h).0 (long_met s.rules (arg_by_long s.rules p.0) p.1 h).1
      (long_pass s.rules own s.args_override_self (arg_by_long s.rules p.0) p.1 h (found_has (IsOwn s.rules) _ s.rules own) fault pass)
  long_or_other_pass waiting word None h fault pass = go (short_of word) fault
    where
      go : (o : Option Text) → option_map_or (λ flags. bundle_fault s.rules s.args_override_self flags h) o [] ≡ [] → Pass s.rules (short_or_plain s.rules waiting word o h).0.rows
      go None fault = plain_rows s.rules (Pass s.rules) waiting word h pass
      go (Some flags) fault =
          flag_rows s.rules (Pass s.rules) waiting word (bundle s.rules flags h).0 (bundle s.rules flags h).1
          (bundle_pass s.rules own s.args_override_self (length flags) flags h.skip plain (record h { skip = 0 }) fault pass)

  other_pass : (o : Option Text) (waiting : Waiting) (position : ℕ) (word : Text) (h : Held) → other_fault s o word h ≡ [] → Pass s.rules h.rows
      → Pass s.rules (subcommand_or_other s.rules o waiting position word h).0.rows
  other_pass (Some name) waiting position word h fault pass = pass
  other_pass None waiting position word h fault pass = go (bytes_eq word (45 ∷ 45 ∷ [])) fault
    where
      go : (b : Bool) → cond b [] (flag_word_fault s.rules s.args_override_self (long_of word) word h) ≡ []
          → Pass s.rules (cond b (h, trailing position) (long_or_other s.rules waiting word (long_of word) h)).0.rows
      go true fault = pass
      go false fault = long_or_other_pass waiting word (long_of word) h fault pass

  word_pass : (is_trailing : Bool) (waiting : Waiting) (position : ℕ) (word : Text) (h : Held) → word_fault s names is_trailing waiting word h ≡ [] → Pass s.rules h.rows
      → Pass s.rules (word_met s.rules names is_trailing waiting position word h).0.rows
  word_pass true waiting position word h fault pass = pass
  word_pass false waiting position word h fault pass = other_pass (subcommand_met names waiting word) waiting position word h fault pass

  positional_pass : (o : Option Rule) (word : Text) (w : Walk) (h : Held) → option_map_or (λ a. positional_fault s.rules s.args_override_self a h) o (stray_fault s) ≡ []
      → Pass s.rules h.rows → Pass s.rules (to_positional s.rules o word w h).held.rows
  positional_pass None word w h fault pass = pass
  positional_pass (Some a) word w h fault pass = go (is_pending a h.pending && takes_several a) fault
    where
      go : (b : Bool) → cond b [] (settle_fault s.rules s.args_override_self h) ≡ [] → Pass s.rules (pushed a.id word (cond b h (settled s.rules h))).rows
      go true fault = pass
      go false fault = settle_pass s.rules own s.args_override_self h fault pass

  step_rows : (w : Walk) (word : Text) (h : Held) (step : Step) → step_fault s w.position h step ≡ [] → Pass s.rules h.rows → Pass s.rules (after_step s.rules word w h step).held.rows
  step_rows w word h (next waiting) fault pass = pass
  step_rows w word h (trailing position) fault pass = pass
  step_rows w word h (subcommand name) fault pass = pass
  step_rows w word h value fault pass = positional_pass (arg_by_index s.rules w.position) word w h fault pass

  abbrev met : Walk → Text → Held × Step
  met w word = word_met s.rules names w.is_trailing w.waiting w.position word w.held

  turn_pass : (w : Walk) (o : Option (Text × List Text)) (word : Text)
      → cond (is_some o) [] (or_else (word_fault s names w.is_trailing w.waiting word w.held) (step_fault s w.position (met w word).0 (met w word).1)) ≡ []
      → Pass s.rules w.held.rows → Pass s.rules (walked_from s.rules names o w word).held.rows
  turn_pass w (Some p) word fault pass = pass
  turn_pass w None word fault pass =
      let parts = none_of_both (word_fault s names w.is_trailing w.waiting word w.held) (step_fault s w.position (met w word).0 (met w word).1) fault in
      step_rows w word (met w word).0 (met w word).1 parts.1 (word_pass w.is_trailing w.waiting w.position word w.held parts.0 pass)

  -- the rows of a walk of which no word fails
  pub walk_pass : (words : List Text) (w : Walk) → walk_fault s names w words ≡ [] → Pass s.rules w.held.rows → Pass s.rules (fold (walked s.rules names) w words).held.rows
  unfolding walk_fault walked
  walk_pass [] w fault pass = pass
  walk_pass (word ∷ rest) w fault pass =
      let parts = none_of_both (turn_fault s names w word) (walk_fault s names (walked s.rules names w word) rest) fault in
      walk_pass rest (walked s.rules names w word) parts.1 (turn_pass w w.stopped word parts.0 pass)

-- ---- where it stops

module _ (s : Shape) (names : Names) where
  abbrev word_step_of : Walk → Text → Held × Step
  word_step_of w word = word_met s.rules names w.is_trailing w.waiting w.position word w.held

  other_step : s.disable_help_subcommand ≡ false → (o : Option Text) (waiting : Waiting) (position : ℕ) (word : Text) (h : Held) → other_fault s o word h ≡ []
      → IsNoHelp (subcommand_or_other s.rules o waiting position word h).1
  other_step enabled (Some name) waiting position word h fault = go (bytes_eq name (codes "help")) s.disable_help_subcommand enabled fault
    where
      go : (b d : Bool) → d ≡ false → cond (b && not d) (kind.DisplayHelp ∷ kind.InvalidSubcommand ∷ []) [] ≡ [] → b ≡ false
      go false d e none = refl
      go true true e none = e
      go true false e none = let bad : kind.DisplayHelp ∷ kind.InvalidSubcommand ∷ [] ≡ [] = none in cc
  other_step enabled None waiting position word h fault = go (bytes_eq word (45 ∷ 45 ∷ []))
    where
      short : (o : Option Text) → IsNoHelp (short_or_plain s.rules waiting word o h).1
      short None = plain_step s.rules waiting word h
      short (Some flags) = flag_step s.rules waiting word (bundle s.rules flags h).0 (bundle s.rules flags h).1

      long : (o : Option (Text × Option Text)) → IsNoHelp (long_or_other s.rules waiting word o h).1
      long None = short (short_of word)
      long (Some p) = flag_step s.rules waiting word (long_met s.rules (arg_by_long s.rules p.0) p.1 h).0 (long_met s.rules (arg_by_long s.rules p.0) p.1 h).1

      go : (b : Bool) → IsNoHelp (cond b (h, trailing position) (long_or_other s.rules waiting word (long_of word) h)).1
      go true = tt
      go false = long (long_of word)

  word_step : s.disable_help_subcommand ≡ false → (is_trailing : Bool) (waiting : Waiting) (position : ℕ) (word : Text) (h : Held) → word_fault s names is_trailing waiting word h ≡ []
      → IsNoHelp (word_met s.rules names is_trailing waiting position word h).1
  word_step enabled true waiting position word h fault = tt
  word_step enabled false waiting position word h fault = other_step enabled (subcommand_met names waiting word) waiting position word h fault

  -- the walk stopped at no subcommand called help
  abbrev pub StopsAtNoHelp : Option (Text × List Text) → Type 0
  StopsAtNoHelp None = Unit {0}
  StopsAtNoHelp (Some p) = bytes_eq p.0 (codes "help") ≡ false

  step_stops : (w : Walk) (word : Text) (h : Held) (step : Step) → StopsAtNoHelp w.stopped → IsNoHelp step → StopsAtNoHelp (after_step s.rules word w h step).stopped
  step_stops w word h (next waiting) before no_help = before
  step_stops w word h (trailing position) before no_help = before
  step_stops w word h (subcommand name) before no_help = no_help
  step_stops w word h value before no_help = go (arg_by_index s.rules w.position)
    where
      go : (o : Option Rule) → StopsAtNoHelp (to_positional s.rules o word w h).stopped
      go None = before
      go (Some a) = tt

  turn_stops : s.disable_help_subcommand ≡ false → (w : Walk) (o : Option (Text × List Text)) (word : Text)
      → cond (is_some o) [] (or_else (word_fault s names w.is_trailing w.waiting word w.held) (step_fault s w.position (word_step_of w word).0 (word_step_of w word).1)) ≡ []
      → StopsAtNoHelp w.stopped → StopsAtNoHelp o → StopsAtNoHelp (walked_from s.rules names o w word).stopped
  turn_stops enabled w (Some p) word fault before here = here
  turn_stops enabled w None word fault before here =
      let parts = none_of_both (word_fault s names w.is_trailing w.waiting word w.held) (step_fault s w.position (word_step_of w word).0 (word_step_of w word).1) fault in
      step_stops w word (word_step_of w word).0 (word_step_of w word).1 before (word_step enabled w.is_trailing w.waiting w.position word w.held parts.0)

  pub walk_stops : s.disable_help_subcommand ≡ false → (words : List Text) (w : Walk) → walk_fault s names w words ≡ [] → StopsAtNoHelp w.stopped
      → StopsAtNoHelp (fold (walked s.rules names) w words).stopped
  unfolding walk_fault walked
  walk_stops enabled [] w fault before = before
  walk_stops enabled (word ∷ rest) w fault before =
      let parts = none_of_both (turn_fault s names w word) (walk_fault s names (walked s.rules names w word) rest) fault in
      walk_stops enabled rest (walked s.rules names w word) parts.1 (turn_stops enabled w w.stopped word parts.0 before before)
