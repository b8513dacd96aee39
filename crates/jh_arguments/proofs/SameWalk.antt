-- A walk reads of an argument's parser only how its values are read: with other parsers that are read alike the rows are the same.
use Rattle.std.proofs.Common.{◌≡◌, ◌∙◌, ◌&&◌, ℕ, zero, suc, Bool, cond, true, false, refl, sym, ap, List, [], ◌∷◌, map, length, drop, Option, Some, None}
use Rattle.std.specs.Prelude.{encode_utf8, option_map, slice_get, pos}
use Rattle.std.specs.List.{find, fold}
use Rattle.std.specs.Str.{bytes_eq, chars}
use Rattle.clap.specs.Lexer.{long_of, short_of}
use Rattle.clap.specs.Simple.{App, Shape, entered, label_of, names_of, rows_at}
use Rattle.clap.specs.Values.{reading_of}
use Rattle.clap.specs.Walk.{Held, Names, Outcome, Row, Rule, Step, Text, Waiting, Walk, idle, after_flag, after_step, action_of, answers_to, arg_by_id, arg_by_index, arg_by_long, arg_by_short, attached_value, bundle, bundle_met, bundle_step, default_rows, done, finished, flag_met, has_row, is_pending, long_met, long_or_other, next, nothing_held, option, option_met, option_word, plain, plain_word, positional, positional_held, pushed, reacted, reading_by, refused, rows_after, settled, settled_rows, short_met, short_or_plain, stop_after, subcommand, subcommand_met, subcommand_or_other, takes_several, takes_values, to_positional, trailing, used, used_as, used_by_id, value, values_or_missing, waits, walk, walk_from, walked, walked_from, with_default, word_met}
use Rattle.clap.specs.declared.builder.value_parser.Reading.{Reading}
use Rattle.clap.specs.declared.builder.value_parser.Reading.TheVariants as reading
use Rattle.clap.specs.declared.builder.value_parser.ValueParser.{ValueParser}
use Rattle.clap.specs.declared.builder.value_parser.ValueParser.TheVariants as vp
use Rattle.clap.proofs.WalkLemmas.{find-map}

-- one parser for each way to read
abbrev parser_read : Reading → ValueParser
parser_read reading.AsWritten = vp.String
parser_read reading.WithoutMinus = vp.Signed (pos 0) (pos 0)
parser_read reading.Boolish = vp.Boolish
parser_read reading.Falsey = vp.Falsey

read_back : (r : Reading) → reading_of (parser_read r) ≡ r
read_back reading.AsWritten = refl
read_back reading.WithoutMinus = refl
read_back reading.Boolish = refl
read_back reading.Falsey = refl

-- the rule with no more of its parser than how values are read
abbrev pub plainly : Rule → Rule
plainly a = record a { parser = Some (parser_read (reading_by a)) }

used_same : (a : Rule) (vs : List Text) (rows : List Row) → used (plainly a) vs rows ≡ used a vs rows
used_same a vs rows = ap (λ how. used_as (action_of a) a.id how (values_or_missing a vs) rows) (read_back (reading_by a))

by_id_same : (o : Option Rule) (vs : List Text) (rows : List Row) → used_by_id (option_map plainly o) vs rows ≡ used_by_id o vs rows
by_id_same None vs rows = refl
by_id_same (Some a) vs rows = used_same a vs rows

two_same : {X : Type 0} (b : Bool) (x y u v : X) → x ≡ u → y ≡ v → cond b x y ≡ cond b u v
two_same true x y u v e f = e
two_same false x y u v e f = f

module _ (c : List Rule) where
  abbrev plain_rules : List Rule
  plain_rules = map plainly c

  id_same : (id : Text) → arg_by_id plain_rules id ≡ option_map plainly (arg_by_id c id)
  id_same id = sym (find-map (λ a. bytes_eq a.id id) plainly c)

  long_same : (name : Text) → arg_by_long plain_rules name ≡ option_map plainly (arg_by_long c name)
  long_same name = sym (find-map _ plainly c)

  short_same : (x : ℕ) → arg_by_short plain_rules x ≡ option_map plainly (arg_by_short c x)
  short_same x = sym (find-map _ plainly c)

  index_same : (i : ℕ) → arg_by_index plain_rules i ≡ option_map plainly (arg_by_index c i)
  index_same i = sym (find-map _ plainly c)

  settled_rows_same : (pending : Option (Text × List Text)) (rows : List Row) → settled_rows plain_rules pending rows ≡ settled_rows c pending rows
  settled_rows_same None rows = refl
  settled_rows_same (Some p) rows = ap (λ o. used_by_id o p.1 rows) (id_same p.0) ∙ by_id_same (arg_by_id c p.0) p.1 rows

  settled_same : (h : Held) → settled plain_rules h ≡ settled c h
  settled_same h = ap (λ rows. record h { rows = rows; pending = None }) (settled_rows_same h.pending h.rows)

  reacted_same : (a : Rule) (vs : List Text) (h : Held) → reacted plain_rules (plainly a) vs h ≡ reacted c a vs h
  reacted_same a vs h =
      ap (λ rows. record h { rows = rows; pending = None })
      (used_same a vs (settled plain_rules h).rows ∙ ap (λ (k : Held). used a vs k.rows) (settled_same h))

  option_same : (a : Rule) (v : Option Text) (h : Held) → option_met plain_rules (plainly a) v h ≡ option_met c a v h
  option_same a (Some v) h = ap (λ (k : Held). (k, done)) (reacted_same a (v ∷ []) h)
  option_same a None h = ap (λ (k : Held). (record k { pending = Some (a.id, []) }, waits a.id)) (settled_same h)

  flag_same : (a : Rule) (v : Option Text) (h : Held) → flag_met plain_rules (plainly a) v h ≡ flag_met c a v h
  flag_same a (Some v) h = refl
  flag_same a None h = ap (λ (k : Held). (k, done)) (reacted_same a [] h)

  long_met_same : (o : Option Rule) (v : Option Text) (h : Held) → long_met plain_rules (option_map plainly o) v h ≡ long_met c o v h
  long_met_same None v h = refl
  long_met_same (Some a) v h = two_same (takes_values a) _ _ _ _ (option_same a v h) (flag_same a v h)

  short_met_same : (o : Option Rule) (rest : Text) (h : Held) (f g : Held → Held × Outcome) → ((k : Held) → f k ≡ g k)
      → short_met plain_rules (option_map plainly o) rest h f ≡ short_met c o rest h g
  short_met_same None rest h f g same = refl
  short_met_same (Some a) rest h f g same =
      two_same (takes_values a) _ _ _ _ (option_same a (attached_value rest) h) (ap f (reacted_same a [] h) ∙ same (reacted c a [] h))

  step_same : (x : Option ℕ) (flags : Text) (skip : ℕ) (so_far : Outcome) (h : Held) (f g : Text → ℕ → Outcome → Held → Held × Outcome)
      → ((t : Text) (n : ℕ) (o : Outcome) (k : Held) → f t n o k ≡ g t n o k) → bundle_step plain_rules x flags skip so_far h f ≡ bundle_step c x flags skip so_far h g
  step_same None flags skip so_far h f g same = refl
  step_same (Some x) flags zero so_far h f g same =
      let rest = drop (length (encode_utf8 x)) flags in
      ap (λ o. short_met plain_rules o rest h (f rest 0 done)) (short_same x) ∙ short_met_same (arg_by_short c x) rest h (f rest 0 done) (g rest 0 done) (same rest 0 done)
  step_same (Some x) flags (suc skip) so_far h f g same = same (drop (length (encode_utf8 x)) flags) skip so_far h

  bundle_same : (k : ℕ) (flags : Text) (skip : ℕ) (so_far : Outcome) (h : Held) → bundle_met plain_rules k flags skip so_far h ≡ bundle_met c k flags skip so_far h
  unfolding bundle_met
  bundle_same zero flags skip so_far h = refl
  bundle_same (suc k) flags skip so_far h = step_same (slice_get (chars flags) 0) flags skip so_far h (bundle_met plain_rules k) (bundle_met c k) (bundle_same k)

  option_word_same : (o : Option Rule) (id word : Text) (h : Held) → option_word (option_map plainly o) id word h ≡ option_word o id word h
  option_word_same None id word h = refl
  option_word_same (Some a) id word h = refl

  plain_word_same : (waiting : Waiting) (word : Text) (h : Held) → plain_word plain_rules waiting word h ≡ plain_word c waiting word h
  plain_word_same idle word h = refl
  plain_word_same positional word h = refl
  plain_word_same (option id) word h =
      ap (λ (p : Held × Waiting). (p.0, next p.1)) (ap (λ o. option_word o id word h) (id_same id) ∙ option_word_same (arg_by_id c id) id word h)

  after_flag_same : (waiting : Waiting) (word : Text) (h : Held) (o : Outcome) → after_flag plain_rules waiting word h o ≡ after_flag c waiting word h o
  after_flag_same waiting word h done = refl
  after_flag_same waiting word h (waits id) = refl
  after_flag_same waiting word h plain = plain_word_same waiting word h
  after_flag_same waiting word h refused = plain_word_same waiting word h

  -- what a flag comes to, by two ways that come to the same
  outcome_same : (waiting : Waiting) (word : Text) (m n : Held × Outcome) → m ≡ n → after_flag plain_rules waiting word m.0 m.1 ≡ after_flag c waiting word n.0 n.1
  outcome_same waiting word m n e = ap (λ (p : Held × Outcome). after_flag plain_rules waiting word p.0 p.1) e ∙ after_flag_same waiting word n.0 n.1

  long_or_other_same : (waiting : Waiting) (word : Text) (p : Option (Text × Option Text)) (h : Held) → long_or_other plain_rules waiting word p h ≡ long_or_other c waiting word p h
  long_or_other_same waiting word (Some p) h =
      outcome_same waiting word (long_met plain_rules (arg_by_long plain_rules p.0) p.1 h) (long_met c (arg_by_long c p.0) p.1 h)
      (ap (λ o. long_met plain_rules o p.1 h) (long_same p.0) ∙ long_met_same (arg_by_long c p.0) p.1 h)
  long_or_other_same waiting word None h = go (short_of word)
    where
      go : (o : Option Text) → short_or_plain plain_rules waiting word o h ≡ short_or_plain c waiting word o h
      go None = plain_word_same waiting word h
      go (Some flags) = outcome_same waiting word (bundle plain_rules flags h) (bundle c flags h) (bundle_same (length flags) flags h.skip plain (record h { skip = 0 }))

  other_same : (o : Option Text) (waiting : Waiting) (position : ℕ) (word : Text) (h : Held) → subcommand_or_other plain_rules o waiting position word h ≡ subcommand_or_other c o waiting position word h
  other_same (Some name) waiting position word h = refl
  other_same None waiting position word h = two_same (bytes_eq word (45 ∷ 45 ∷ [])) _ _ _ _ refl (long_or_other_same waiting word (long_of word) h)

  positional_same : (a : Rule) (word : Text) (h : Held) → positional_held plain_rules (plainly a) word h ≡ positional_held c a word h
  positional_same a word h = ap (pushed a.id word) (two_same (is_pending a h.pending && takes_several a) _ _ _ _ refl (settled_same h))

  to_positional_same : (o : Option Rule) (word : Text) (w : Walk) (h : Held) → to_positional plain_rules (option_map plainly o) word w h ≡ to_positional c o word w h
  to_positional_same None word w h = refl
  to_positional_same (Some a) word w h = ap (λ (k : Held). record (to_positional c (Some a) word w h) { held = k }) (positional_same a word h)

  after_step_same : (word : Text) (w : Walk) (h : Held) (s : Step) → after_step plain_rules word w h s ≡ after_step c word w h s
  after_step_same word w h (next waiting) = refl
  after_step_same word w h (trailing position) = refl
  after_step_same word w h (subcommand name) = refl
  after_step_same word w h value = ap (λ o. to_positional plain_rules o word w h) (index_same w.position) ∙ to_positional_same (arg_by_index c w.position) word w h

  module _ (names : Names) where
    met_same : (w : Walk) (word : Text) → word_met plain_rules names w.is_trailing w.waiting w.position word w.held ≡ word_met c names w.is_trailing w.waiting w.position word w.held
    met_same w word = two_same w.is_trailing _ _ _ _ refl (other_same (subcommand_met names w.waiting word) w.waiting w.position word w.held)

    turn_same : (o : Option (Text × List Text)) (w : Walk) (word : Text) → walked_from plain_rules names o w word ≡ walked_from c names o w word
    turn_same (Some p) w word = refl
    turn_same None w word =
        ap (λ (p : Held × Step). after_step plain_rules word w p.0 p.1) (met_same w word)
        ∙ after_step_same word w (word_met c names w.is_trailing w.waiting w.position word w.held).0 (word_met c names w.is_trailing w.waiting w.position word w.held).1

    walk_same : (words : List Text) (w : Walk) → fold (walked plain_rules names) w words ≡ fold (walked c names) w words
    unfolding walked
    walk_same [] w = refl
    walk_same (word ∷ rest) w = ap (λ v. fold (walked plain_rules names) v rest) (turn_same w.stopped w word) ∙ walk_same rest (walked c names w word)

    -- where the walk stops
    pub stop_same : (words : List Text) → stop_after plain_rules names words ≡ stop_after c names words
    stop_same words = ap (λ (w : Walk). w.stopped) (walk_same words (walk_from nothing_held))

defaults_same : (xs : List Rule) (rows : List Row) → fold with_default rows (map plainly xs) ≡ fold with_default rows xs
defaults_same [] rows = refl
defaults_same (a ∷ xs) rows =
    ap (λ r. fold with_default r (map plainly xs)) (ap (λ how. cond (has_row a.id rows) rows (default_rows a.id how a.defaults rows)) (read_back (reading_by a)))
    ∙ defaults_same xs (with_default rows a)

-- the rows at its end
pub rows_same : (c : List Rule) (names : Names) (words : List Text) → rows_after (map plainly c) names words ≡ rows_after c names words
rows_same c names words =
    let end = (walk c names nothing_held words).held in
    ap (λ (w : Walk). finished (map plainly c) w.held) (walk_same c names words (walk_from nothing_held))
    ∙ (ap (λ (h : Held). fold with_default h.rows (map plainly c)) (settled_same c end) ∙ defaults_same c (settled c end).rows)

-- ---- a command

abbrev plain_shape : Shape → Shape
plain_shape s = record s { rules = map plainly s.rules }

-- the command, of whose parsers only how values are read is left
abbrev pub plain_app : App → App
plain_app a = record { top = plain_shape a.top; subs = map plain_shape a.subs }

-- the subcommand that words name, of a command that is built
abbrev pub subcommand_by : App → List Text → Option (Text × List Row)
subcommand_by a words = entered a (stop_after a.top.rules (names_of a) words)

labels_same : (subs : List Shape) → map label_of (map plain_shape subs) ≡ map label_of subs
labels_same [] = refl
labels_same (s ∷ rest) = ap (λ ls. label_of s ∷ ls) (labels_same rest)

entered_same : (a : App) (stop : Option (Text × List Text)) → entered (plain_app a) stop ≡ entered a stop
entered_same a None = refl
entered_same a (Some p) =
    ap (option_map (λ s. rows_at s p.1)) (sym (find-map (λ (s : Shape). answers_to p.0 (label_of s)) plain_shape a.subs))
    ∙ go (find (λ s. answers_to p.0 (label_of s)) a.subs)
  where
    go : (o : Option Shape) → option_map (λ s. rows_at s p.1) (option_map plain_shape o) ≡ option_map (λ s. rows_at s p.1) o
    go None = refl
    go (Some s) = ap (λ rows. Some (s.name, rows)) (rows_same s.rules [] p.1)

pub subcommand_same : (a : App) (words : List Text) → subcommand_by (plain_app a) words ≡ subcommand_by a words
subcommand_same a words =
    ap (λ names. entered (plain_app a) (stop_after (map plainly a.top.rules) names words)) (labels_same a.subs)
    ∙ (ap (entered (plain_app a)) (stop_same a.top.rules (names_of a) words) ∙ entered_same a (stop_after a.top.rules (names_of a) words))
