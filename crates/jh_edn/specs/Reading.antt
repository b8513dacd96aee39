-- The first error of a text: reading from left to right, up to the first character that decides
-- against the text (this project's own; which texts spell which values is Spelling).
use Rattle.std.specs.Prelude.{◌≡◌, ℕ, zero, suc, ◌+◌, ◌-◌, ◌^◌, Bool, true, false, ◌&&◌, ◌||◌, ◌==◌}
use Rattle.std.specs.Prelude.{nat_lt, if◌then◌else◌, List, [], ◌∷◌, ◌++◌, length, map, take, drop}
use Rattle.std.specs.Prelude.{slice_index, slice_get, encode_utf8, chars, ℤ, pos, negsuc, Option}
use Rattle.std.specs.Prelude.{Some, None, option_map, Result, Ok, Err, codes}
use Rattle.std.specs.List.{count_by, prefix_len}
use Rattle.std.specs.Str.{bytes_eq}
use lib.Utf8.{scalar}
use Rattle.std.specs.Str.Parse.{signed_digits_value}
use Rattle.jh_edn.specs.declared.error.EdnError.{EdnError}
use Rattle.jh_edn.specs.declared.error.EdnError.TheVariants as errors
use Rattle.jh_edn.specs.declared.syntax_error.SyntaxError.{SyntaxError}
use Rattle.jh_edn.specs.declared.syntax_error.ReadError.{ReadError}
use Rattle.jh_edn.specs.declared.syntax_error.ReadError.TheVariants as reads
use Rattle.jh_edn.specs.declared.syntax_error.SyntaxErrorKind.{SyntaxErrorKind}
use Rattle.jh_edn.specs.declared.syntax_error.SyntaxErrorKind.TheVariants.{UnexpectedEnd, BadToken}
use Rattle.jh_edn.specs.declared.syntax_error.SyntaxErrorKind.TheVariants.{FloatUnsupported, IntegerRange}
use Rattle.jh_edn.specs.declared.syntax_error.SyntaxErrorKind.TheVariants.{BadEscape, OddMap, DuplicateKey}
use Rattle.jh_edn.specs.declared.syntax_error.SyntaxErrorKind.TheVariants.{TooDeep}
use Rattle.jh_edn.specs.Edn.{Edn, nil, boolean, int, char, str, keyword, symbol, list, vector}
use Rattle.jh_edn.specs.Edn.{mapping, set, tagged, items_of, members_of}
use Rattle.jh_edn.specs.Bytes.{open_paren, close_paren, hash, is_blank, quote, plus, minus}
use Rattle.jh_edn.specs.Bytes.{digit_zero, line_feed, colon, semicolon, begins_discard, capital_n}
use Rattle.jh_edn.specs.Bytes.{open_bracket, close_bracket, backslash, open_brace, close_brace}
use Rattle.jh_edn.specs.Bytes.{is_among, is_space, is_token_byte, is_digit, escaped_byte}
use Rattle.jh_edn.specs.Spelling.{is_name, is_symbol_name, is_tag, char_named, char_numbered}
use Rattle.jh_edn.specs.Spelling.{depth_limit, Reads}
use Rattle.jh_edn.specs.Key.{key_of, item_keys, has_twice}

-- reads the front of a text: what was read and what follows it, or an error
abbrev pub Read : Type 0 → Type 0
Read A = List ℕ → Result (A × List ℕ) SyntaxError

-- finds what follows the front of a text, or an error
abbrev pub Skip : Type 0
Skip = List ℕ → Result (List ℕ) SyntaxError

-- goes on with what was read; the first error stays
infixl 10 ◌>>=◌
abbrev pub ◌>>=◌ : {A B : Type 0} → Result A SyntaxError → (A → Result B SyntaxError)
    → Result B SyntaxError
(Ok x) >>= f = f x
(Err e) >>= f = Err e

-- an error at the front of s
abbrev pub syntax_error : {A : Type 0} → SyntaxErrorKind → List ℕ → Result A SyntaxError
syntax_error kind s = Err (record { kind = kind; left = length s })

-- these stand before what was read
abbrev pub read_with_front : {A : Type 0} → List A → Result (List A × List ℕ) SyntaxError
    → Result (List A × List ℕ) SyntaxError
read_with_front front read = read >>= λ x. Ok (front ++ x.0, x.1)

-- an escape, and what follows it: BadEscape at the backslash where it stands for nothing
abbrev pub read_after_escape : Option ℕ → List ℕ → Result (List ℕ × List ℕ) SyntaxError
    → Result (List ℕ × List ℕ) SyntaxError
read_after_escape (Some b) s read = read_with_front (b ∷ []) read
read_after_escape None s read = syntax_error BadEscape s

-- the rest of a string, up to its quote: UnexpectedEnd where there is none, also after a last
-- backslash
unfoldable pub body : Read (List ℕ)
body [] = syntax_error UnexpectedEnd []
body (c ∷ []) = if c == quote then Ok ([], []) else syntax_error UnexpectedEnd []
body (c ∷ d ∷ s) =
    if c == quote then Ok ([], d ∷ s)
    else if c == backslash then read_after_escape (escaped_byte d) (c ∷ d ∷ s) (body s)
    else read_with_front (c ∷ []) (body (d ∷ s))

-- what follows white space and comments, where no comment has begun
abbrev mutual
  pub text_after_blank : List ℕ → List ℕ
  text_after_blank [] = []
  text_after_blank (c ∷ s) =
      if is_space c then text_after_blank s else if c == semicolon then text_after_comment s
      else c ∷ s

  -- the same, in a comment
  pub text_after_comment : List ℕ → List ℕ
  text_after_comment [] = []
  text_after_comment (c ∷ s) = if c == line_feed then text_after_blank s else text_after_comment s

-- the token that the text begins with
abbrev pub token_of : List ℕ → List ℕ
token_of s = take (prefix_len is_token_byte s) s

-- 1 where a sign stands first
unfoldable pub sign_len : List ℕ → ℕ
sign_len token = if slice_index token 0 == plus || slice_index token 0 == minus then 1 else 0

-- how many digits a number has
abbrev pub digits_len : List ℕ → ℕ
digits_len token = prefix_len is_digit (drop (sign_len token) token)

-- where they end
abbrev pub digits_end : List ℕ → ℕ
digits_end token = sign_len token + digits_len token

-- a number begins with a digit, or with a sign and a digit
abbrev pub begins_number : List ℕ → Bool
begins_number token = is_digit (slice_index (drop (sign_len token) token) 0)

-- what follows the digits of a number that is no integer
unfoldable pub begins_fraction : List ℕ → Bool
begins_fraction rest = is_among (codes ".eEM") (slice_index rest 0)

-- what may follow the digits of an integer: an N, or nothing
abbrev pub is_suffix : List ℕ → Bool
is_suffix [] = true
is_suffix (c ∷ []) = c == capital_n
is_suffix (c ∷ d ∷ s) = false

-- a number without its sign; of a negative one, one less, as its range wants it
abbrev pub magnitude : ℤ → ℕ
magnitude (pos n) = n
magnitude (negsuc n) = n

-- a sign and digits: BadToken for a leading zero, then IntegerRange
unfoldable pub integer_spelled : List ℕ → Result ℤ SyntaxErrorKind
integer_spelled core =
    if nat_lt 1 (length (drop (sign_len core) core))
    && slice_index (drop (sign_len core) core) 0 == digit_zero then Err BadToken
    else if nat_lt (magnitude (signed_digits_value 10 core)) (2 ^ 63)
    then Ok (signed_digits_value 10 core)
    else Err IntegerRange

-- what follows the digits comes first: FloatUnsupported, then BadToken, then the digits themselves
unfoldable pub number_of : List ℕ → Result ℤ SyntaxErrorKind
number_of token =
    if begins_fraction (drop (digits_end token) token) then Err FloatUnsupported
    else if is_suffix (drop (digits_end token) token)
    then integer_spelled (take (digits_end token) token)
    else Err BadToken

-- an integer as a value
abbrev pub int_value : Result ℤ SyntaxErrorKind → Result Edn SyntaxErrorKind
int_value (Ok z) = Ok (int z)
int_value (Err k) = Err k

-- nil, true or false
unfoldable pub constant_of : List ℕ → Option Edn
constant_of token =
    if bytes_eq token (codes "nil") then Some nil
    else if bytes_eq token (codes "true") then Some (boolean true)
    else if bytes_eq token (codes "false") then Some (boolean false)
    else None

-- such a constant, or else a symbol, or BadToken
abbrev pub constant_or_symbol : Option Edn → List ℕ → Result Edn SyntaxErrorKind
constant_or_symbol (Some x) token = Ok x
constant_or_symbol None token = if is_symbol_name token then Ok (symbol token) else Err BadToken

-- a token: a number, a keyword, nil, true, false, a symbol, or BadToken
unfoldable pub atom_of : List ℕ → Result Edn SyntaxErrorKind
atom_of token =
    if begins_number token then int_value (number_of token)
    else if slice_index token 0 == colon && is_name (drop 1 token) then Ok (keyword (drop 1 token))
    else constant_or_symbol (constant_of token) token

-- a token's error stands at its first character
abbrev pub atom_or_error : Result Edn SyntaxErrorKind → List ℕ → List ℕ → Result (Edn × List ℕ) SyntaxError
atom_or_error (Ok x) s after = Ok (x, after)
atom_or_error (Err k) s after = syntax_error k s

-- a token, and what follows it
unfoldable pub atom : Read Edn
atom s = atom_or_error (atom_of (token_of s)) s (drop (prefix_len is_token_byte s) s)

-- a character by itself
unfoldable pub lone_char : ℕ → Option ℕ
lone_char c = if is_blank c then None else Some c

-- the one or else the other
abbrev pub either_char : Option ℕ → Option ℕ → Option ℕ
either_char (Some c) other = Some c
either_char None other = other

-- a character by its name or its number
unfoldable pub char_spelled : List ℕ → Option ℕ
char_spelled name = either_char (char_named name) (char_numbered name)

-- the character that stands behind a backslash, and the token behind it: itself, or both together
-- its name
unfoldable pub char_of : ℕ → List ℕ → Option ℕ
char_of c [] = lone_char c
char_of c (d ∷ token) = char_spelled (encode_utf8 c ++ d ∷ token)

-- a character as a value
abbrev pub char_value : Option ℕ → Result Edn SyntaxErrorKind
char_value (Some c) = Ok (char c)
char_value None = Err BadToken

-- the text begins with the character (as each text does with its first: other bytes are no UTF-8)
abbrev pub begins_char : ℕ → List ℕ → Bool
begins_char c s = scalar c && bytes_eq (take (length (encode_utf8 c)) s) (encode_utf8 c)

-- a character behind the backslash where the text begins, and what stands behind the character
abbrev pub char_before : ℕ → List ℕ → Read Edn
char_before c begin after =
    atom_or_error (char_value (char_of c (token_of after))) begin
    (drop (prefix_len is_token_byte after) after)

-- what stands behind the backslash where the text begins: UnexpectedEnd where there is nothing
abbrev pub character_at : Option ℕ → List ℕ → List ℕ → Result (Edn × List ℕ) SyntaxError
character_at None begin s = syntax_error UnexpectedEnd []
character_at (Some c) begin s =
    if begins_char c s then char_before c begin (drop (length (encode_utf8 c)) s)
    else syntax_error BadToken begin

-- a character, from its backslash on
unfoldable pub character : Read Edn
character begin = character_at (slice_get (chars (drop 1 begin)) 0) begin (drop 1 begin)

-- elements two by two, or None where one is left over
abbrev pub pairs_of : List Edn → Option (List (Edn × Edn))
pairs_of [] = Some []
pairs_of (k ∷ []) = None
pairs_of (k ∷ v ∷ xs) = option_map (λ ms. (k, v) ∷ ms) (pairs_of xs)

-- two keys are equal
unfoldable pub repeats_key : List (Edn × Edn) → Bool
repeats_key ms = has_twice (map (λ m. key_of m.0) ms)

-- two elements are equal
unfoldable pub repeats_element : List Edn → Bool
repeats_element xs = has_twice (item_keys (items_of xs))

-- a map's elements: OddMap, then DuplicateKey, at the closing brace, which stands just before the
-- rest
abbrev pub map_or_error : Option (List (Edn × Edn)) → List ℕ → Result (Edn × List ℕ) SyntaxError
map_or_error None after = Err (record { kind = OddMap; left = length after + 1 })
map_or_error (Some ms) after =
    if repeats_key ms then Err (record { kind = DuplicateKey; left = length after + 1 })
    else Ok (mapping (members_of ms), after)

-- a set's elements: DuplicateKey at the closing brace, which stands just before the rest
abbrev pub set_or_error : List Edn → List ℕ → Result (Edn × List ℕ) SyntaxError
set_or_error xs after =
    if repeats_element xs then Err (record { kind = DuplicateKey; left = length after + 1 })
    else Ok (set (items_of xs), after)

-- Reading one bracket, tag or discard deeper: the elements up to a closing bracket, or one element.
-- Both are given the text from the bracket, tag or discard on, where TooDeep stands, and then what
-- stands behind it.
pub record DeeperReads : Type 0 where
  pub elements : ℕ → List ℕ → Read (List Edn)
  pub one : List ℕ → Read Edn

-- what stands behind a # as a tag
abbrev pub tag_of : List ℕ → List ℕ
tag_of begin = token_of (drop 1 begin)

-- what stands behind that
abbrev pub text_after_tag : List ℕ → List ℕ
text_after_tag begin = drop (prefix_len is_token_byte (drop 1 begin)) (drop 1 begin)

-- a set or a tagged element, from its # on: BadToken before anything else
unfoldable pub hash_element : DeeperReads → Read Edn
hash_element deeper_reads begin =
    if slice_index begin 1 == open_brace
    then (deeper_reads.elements close_brace begin (drop 2 begin) >>= λ x. set_or_error x.0 x.1)
    else if is_tag (tag_of begin)
    then (deeper_reads.one begin (text_after_tag begin)
    >>= λ x. Ok (tagged (tag_of begin) x.0, x.1))
    else syntax_error BadToken begin

-- an element: UnexpectedEnd at the end, BadToken where a delimiter stands that opens none
unfoldable pub element : DeeperReads → Read Edn
element deeper_reads [] = syntax_error UnexpectedEnd []
element deeper_reads (c ∷ s) =
    if c == quote then (body s >>= λ x. Ok (str x.0, x.1))
    else if c == open_paren
    then (deeper_reads.elements close_paren (c ∷ s) s >>= λ x. Ok (list (items_of x.0), x.1))
    else if c == open_bracket
    then (deeper_reads.elements close_bracket (c ∷ s) s
    >>= λ x. Ok (vector (items_of x.0), x.1))
    else if c == open_brace
    then (deeper_reads.elements close_brace (c ∷ s) s >>= λ x. map_or_error (pairs_of x.0) x.1)
    else if c == backslash then character (c ∷ s)
    else if c == hash then hash_element deeper_reads (c ∷ s)
    else if is_token_byte c then atom (c ∷ s)
    else syntax_error BadToken (c ∷ s)

-- white space and comments are gone: a discarded element and more, or the end of the gap
abbrev pub gap_step : DeeperReads → Skip → Skip
gap_step deeper_reads more s =
    if begins_discard s then (deeper_reads.one s (drop 2 s) >>= λ x. more x.1) else Ok s

-- a gap, with at most so many discarded elements: one more than the bytes is enough
unfoldable pub gap_turns : DeeperReads → ℕ → Skip
gap_turns deeper_reads zero s = syntax_error UnexpectedEnd []
gap_turns deeper_reads (suc n) s =
    gap_step deeper_reads (gap_turns deeper_reads n) (text_after_blank s)

-- a gap
abbrev pub gap_in : DeeperReads → Skip
gap_in deeper_reads s = gap_turns deeper_reads (suc (length s)) s

-- the closing bracket, or an element and more: UnexpectedEnd at the end
abbrev pub items_step : ℕ → Read Edn → Read (List Edn) → Read (List Edn)
items_step close value more [] = syntax_error UnexpectedEnd []
items_step close value more (c ∷ s) =
    if c == close then Ok ([], s)
    else (value (c ∷ s) >>= λ x. read_with_front (x.0 ∷ []) (more x.1))

-- elements and gaps up to the closing bracket, at most as many as the number says: one more than
-- the bytes is enough
unfoldable pub items : ℕ → Skip → Read Edn → ℕ → Read (List Edn)
items close skip value zero s = syntax_error UnexpectedEnd []
items close skip value (suc n) s = skip s >>= items_step close value (items close skip value n)

-- TooDeep at the opening bracket, the tag or the discard
abbrev pub too_deep_reads : DeeperReads
too_deep_reads = record {
  elements = λ close begin s. syntax_error TooDeep begin;
  one = λ begin s. syntax_error TooDeep begin;
}

-- with brackets, tags and discards nested less deep than that
unfoldable pub deeper_reads : ℕ → DeeperReads
deeper_reads zero = too_deep_reads
deeper_reads (suc depth) = record {
  elements =
      λ close begin s.
      items close (gap_in (deeper_reads depth)) (element (deeper_reads depth)) (suc (length s)) s;
  one = λ begin s. gap_in (deeper_reads depth) s >>= element (deeper_reads depth);
}

-- what follows a gap with discards nested no deeper than that
abbrev pub gap : ℕ → Skip
gap depth = gap_in (deeper_reads depth)

-- an element with brackets, tags and discards nested no deeper than that
abbrev pub read : ℕ → Read Edn
read depth = element (deeper_reads depth)

-- a gap and then an element
abbrev pub next : ℕ → Read Edn
next depth s = gap depth s >>= read depth

-- the line of the place with so many bytes left: one more than the line feeds before it
abbrev pub line_at : List ℕ → ℕ → ℕ
line_at text left = 1 + count_by (λ c. c == line_feed) (take (length text - left) text)

-- what is wrong, at that line
abbrev pub error_at : SyntaxErrorKind → ℕ → EdnError
error_at UnexpectedEnd line = errors.UnexpectedEnd line
error_at BadToken line = errors.BadToken line
error_at FloatUnsupported line = errors.FloatUnsupported line
error_at IntegerRange line = errors.IntegerRange line
error_at BadEscape line = errors.BadEscape line
error_at OddMap line = errors.OddMap line
error_at DuplicateKey line = errors.DuplicateKey line
error_at TooDeep line = errors.TooDeep line

-- why a text was not read on
abbrev pub error_in : List ℕ → ReadError → EdnError
error_in text reads.Memory = errors.OutOfMemory
error_in text (reads.Syntax f) = error_at f.kind (line_at text f.left)

-- From `at` on the text's first error is this error, with its line in the whole text
pub record IsFirstErrorAt (text : List ℕ) (at : ℕ) (e : EdnError) : Type 0 where
  pub found : SyntaxError
  pub is_first : next depth_limit (drop at text) ≡ Err found
  pub is : e ≡ error_at found.kind (line_at text found.left)

-- reading whole elements from the start of the text on, one comes to that place
pub data IsReached (text : List ℕ) : ℕ → Type 0 where
  start : (at : ℕ) → at ≡ 0 → IsReached text at
  behind : (at end : ℕ) (x : Edn) → IsReached text at → Reads text at x end → IsReached text end

-- a first error, behind the elements that the text begins with
abbrev pub IsErrorBehind : List ℕ → EdnError → Type 0
IsErrorBehind text e = (at : ℕ) × IsReached text at × IsFirstErrorAt text at e
