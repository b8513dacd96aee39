-- The texts of environments, steps and generators are ASCII, as the names of nodes are.
use Rattle.std.proofs.Common.{◌≡◌, ℕ, zero, suc, ◌<◌, true, List, [], ◌∷◌, ◌++◌, codes, map, filter_map, flat_map, Option, Some, None, refl, sym, ◌∙◌, arith, append_assoc}
use Rattle.std.specs.Prelude.{◌==◌, ◌&&◌, nat_le, not, length, IfSome, slice_get, slice_index_or, ℤ}
use Rattle.std.specs.List.{AllByRecursion, list_all}
use Rattle.std.specs.Str.{IsAscii}
use Rattle.std.proofs.lemmas.Bool.{and_parts}
use Rattle.std.proofs.lemmas.Bool.Decides.{nat_tests}
use Rattle.std.proofs.lemmas.List.Elements.{All-from_recursion}
use Rattle.std.proofs.lemmas.Str.Ascii.{IsAscii-nil, IsAscii-from_all}
use Rattle.jh_edn.specs.Edn.{str, items_of, members_of}
use Rattle.jh_env.specs.declared.texts.entries.Section.{Section}
use Rattle.jh_env.specs.declared.texts.entries.LinkChange.{LinkChange}
use Rattle.jh_env.specs.declared.texts.entries.NodeChange.{NodeChange}
use Rattle.jh_env.specs.Faults.{FaultValue, Cut, Slow, Loss, Fix, Pause, Kill, Bump}
use Rattle.jh_env.specs.Names.{AreNodeNames, is_node_name, is_name_byte}
use Rattle.jh_env.specs.Overlay.{EnvValue, link_of, node_of}
use Rattle.jh_env.specs.Text.{◌>>=◌, Entry, keyword_of, nodes_keyword}
use Rattle.jh_env.specs.TextWritten.{places, link_change, node_change, link_entry, node_entry, entries_written, link_amounts, node_amount, edn_of_entry, section_pair, edn_of_env}
use Rattle.jh_step_texts.specs.FaultWritten.{fault_in_order, edn_of_name, edn_of_link, edn_of_bump, fault_values}
use Rattle.jh_step_texts.specs.StepWritten.{edn_of_step}
use Rattle.jh_nemesis.specs.declared.steps.Step.{Step}
use Rattle.jh_nemesis.specs.declared.steps.Step.TheVariants.{Begin, Withdraw, WithdrawAll, Undo, Redo}
use Rattle.jh_laws.proofs.EnvironmentLemmas.{all_kept}
use Rattle.jh_settings_texts.proofs.AsciiLemmas.{HasAscii, HaveAscii, PairsHaveAscii, tested}

-- ---- names

byte_low : (b : ℕ) → is_name_byte b ≡ true → b < 128
byte_low b h = grind (arith, nat_tests, h)

bytes_low : (bs : List ℕ) → list_all is_name_byte bs ≡ true → AllByRecursion (λ b. b < 128) bs
bytes_low [] h = tt
bytes_low (b ∷ bs) h =
    let parts = and_parts (is_name_byte b) (list_all is_name_byte bs) h in
    (byte_low b parts.0, bytes_low bs parts.1)

name_ascii : (name : List ℕ) → is_node_name name ≡ true → IsAscii name
name_ascii name h =
    let parts = and_parts (not (length name == 0)) (nat_le (length name) 64 && list_all is_name_byte name) h in
    let bytes = (and_parts (nat_le (length name) 64) (list_all is_name_byte name) parts.1).1 in
    IsAscii-from_all name (All-from_recursion (λ b. b < 128) name (bytes_low name bytes))

names_behind : (names before rest : List (List ℕ)) → AreNodeNames names → names ≡ before ++ rest → AllByRecursion IsAscii rest
names_behind names before [] named is = tt
names_behind names before (name ∷ rest) named is =
    (name_ascii name (named before rest name is).0, names_behind names (before ++ name ∷ []) rest named (is ∙ sym (append_assoc before (name ∷ []) rest)))

pub names_ascii : (names : List (List ℕ)) → AreNodeNames names → AllByRecursion IsAscii names
names_ascii names named = names_behind names [] names named refl

name_at : (names : List (List ℕ)) (a : ℕ) → AllByRecursion IsAscii names → IfSome (slice_get names a) IsAscii
name_at [] a h = tt
name_at (name ∷ names) zero h = h.0
name_at (name ∷ names) (suc a) h = name_at names a h.1

name_or : (names : List (List ℕ)) (a : ℕ) → AllByRecursion IsAscii names → IsAscii (slice_index_or names a [])
name_or [] a h = IsAscii-nil
name_or (name ∷ names) zero h = h.0
name_or (name ∷ names) (suc a) h = name_or names a h.1

-- ---- steps

module _ (names : List (List ℕ)) (ascii : AllByRecursion IsAscii names) where
  links_ascii : (links : List (ℕ × ℕ)) → HaveAscii (items_of (map (edn_of_link names) links))
  links_ascii [] = tt
  links_ascii (l ∷ ls) = ((name_or names l.0 ascii, (name_or names l.1 ascii, tt)), links_ascii ls)

  nodes_ascii : (nodes : List ℕ) → HaveAscii (items_of (map (edn_of_name names) nodes))
  nodes_ascii [] = tt
  nodes_ascii (n ∷ ns) = (name_or names n ascii, nodes_ascii ns)

  bumps_ascii : (bumps : List (ℕ × ℤ)) → PairsHaveAscii (members_of (map (edn_of_bump names) bumps))
  bumps_ascii [] = tt
  bumps_ascii (b ∷ bs) = (name_or names b.0 ascii, tt, bumps_ascii bs)

  values_ascii : (fault : FaultValue) → HaveAscii (items_of (fault_values names fault))
  values_ascii (Cut links) = (tested (codes "cut") refl, (links_ascii links, tt))
  values_ascii (Slow ms links) = (tested (codes "slow") refl, (tt, (links_ascii links, tt)))
  values_ascii (Loss level links) = (tested (codes "loss") refl, (tt, (links_ascii links, tt)))
  values_ascii (Fix ms links) = (tested (codes "fix") refl, (tt, (links_ascii links, tt)))
  values_ascii (Pause nodes) = (tested (codes "pause") refl, (nodes_ascii nodes, tt))
  values_ascii (Kill nodes) = (tested (codes "kill") refl, (nodes_ascii nodes, tt))
  values_ascii (Bump bumps) = (tested (codes "bump") refl, (bumps_ascii bumps, tt))

  pub step_ascii : (step : Step) → HasAscii (edn_of_step names step)
  step_ascii (Begin id fault) = (tested (codes "begin") refl, (tt, (values_ascii (fault_in_order fault), tt)))
  step_ascii (Withdraw id) = (tested (codes "withdraw") refl, (tt, tt))
  step_ascii WithdrawAll = (tested (codes "withdraw-all") refl, tt)
  step_ascii Undo = (tested (codes "undo") refl, tt)
  step_ascii Redo = (tested (codes "redo") refl, tt)

-- ---- environments

abbrev AsciiEntry : Entry → Type 0
AsciiEntry entry = HasAscii (edn_of_entry entry)

if_bound : {A B : Type 0} (o : Option A) (f : A → Option B) (Q : A → Type 0) (P : B → Type 0) → IfSome o Q → ((x : A) → Q x → IfSome (f x) P) → IfSome (o >>= f) P
if_bound None f Q P h each = tt
if_bound (Some x) f Q P h each = each x h

if_any : {A B : Type 0} (o : Option A) (f : A → Option B) (P : B → Type 0) → ((x : A) → IfSome (f x) P) → IfSome (o >>= f) P
if_any None f P each = tt
if_any (Some x) f P each = each x

amounts_ascii : (says : LinkChange) → HaveAscii (items_of (link_amounts says))
amounts_ascii LinkChange.Cut = tt
amounts_ascii (LinkChange.Delay ms) = (tt, tt)
amounts_ascii (LinkChange.Loss level) = (tt, tt)

amount_ascii : (says : NodeChange) → HasAscii (node_amount says)
amount_ascii NodeChange.Pause = tested (codes "paused") refl
amount_ascii NodeChange.Kill = tested (codes "killed") refl
amount_ascii (NodeChange.Clock ms) = tt

all_joined : {B : Type 0} (P : B → Type 0) (xs ys : List B) → AllByRecursion P xs → AllByRecursion P ys → AllByRecursion P (xs ++ ys)
all_joined P [] ys h k = k
all_joined P (x ∷ xs) ys h k = (h.0, all_joined P xs ys h.1 k)

all_flat : {A B : Type 0} (f : A → List B) (P : B → Type 0) → ((x : A) → AllByRecursion P (f x)) → (xs : List A) → AllByRecursion P (flat_map f xs)
all_flat f P each [] = tt
all_flat f P each (x ∷ xs) = all_joined P (f x) (flat_map f xs) (each x) (all_flat f P each xs)

entries_ascii : (entries : List Entry) → AllByRecursion AsciiEntry entries → HaveAscii (items_of (map edn_of_entry entries))
entries_ascii [] all = tt
entries_ascii (entry ∷ entries) all = (all.0, entries_ascii entries all.1)

strings_ascii : (names : List (List ℕ)) → AllByRecursion IsAscii names → HaveAscii (items_of (map str names))
strings_ascii [] all = tt
strings_ascii (name ∷ names) all = (all.0, strings_ascii names all.1)

module _ (env : EnvValue) (ascii : AllByRecursion IsAscii env.names) where
  link_entry_ascii : (section : Section) (a b : ℕ) → IfSome (link_entry env section a b) AsciiEntry
  link_entry_ascii section a b =
      if_bound (slice_get env.names a) _ IsAscii AsciiEntry (name_at env.names a ascii) (λ from from_ascii.
      if_bound (slice_get env.names b) _ IsAscii AsciiEntry (name_at env.names b ascii) (λ to to_ascii.
      if_any (link_of env a b) _ AsciiEntry (λ link.
      if_any (link_change section link) _ AsciiEntry (λ says. (from_ascii, (to_ascii, amounts_ascii says))))))

  node_entry_ascii : (section : Section) (a : ℕ) → IfSome (node_entry env section a) AsciiEntry
  node_entry_ascii section a =
      if_bound (slice_get env.names a) _ IsAscii AsciiEntry (name_at env.names a ascii) (λ name name_ascii.
      if_any (node_of env a) _ AsciiEntry (λ node.
      if_any (node_change section node) _ AsciiEntry (λ says. (name_ascii, (amount_ascii says, tt)))))

  links_written : (section : Section) → AllByRecursion AsciiEntry (flat_map (λ a. filter_map (link_entry env section a) (places env)) (places env))
  links_written section =
      all_flat (λ a. filter_map (link_entry env section a) (places env)) AsciiEntry
      (λ a. all_kept (link_entry env section a) AsciiEntry (link_entry_ascii section a) (places env)) (places env)

  written_ascii : (section : Section) → AllByRecursion AsciiEntry (entries_written env section)
  written_ascii Section.Cut = links_written Section.Cut
  written_ascii Section.Slow = links_written Section.Slow
  written_ascii Section.Loss = links_written Section.Loss
  written_ascii Section.Down = all_kept (node_entry env Section.Down) AsciiEntry (node_entry_ascii Section.Down) (places env)
  written_ascii Section.Clock = all_kept (node_entry env Section.Clock) AsciiEntry (node_entry_ascii Section.Clock) (places env)

  section_ascii : (section : Section) → HasAscii (section_pair env section).1
  section_ascii section = entries_ascii (entries_written env section) (written_ascii section)

  pub environment_ascii : HasAscii (edn_of_env env)
  environment_ascii = (
    tested nodes_keyword refl,
    strings_ascii env.names ascii,
    (
      tested (keyword_of Section.Cut) refl,
      section_ascii Section.Cut,
      (
        tested (keyword_of Section.Slow) refl,
        section_ascii Section.Slow,
        (
          tested (keyword_of Section.Loss) refl,
          section_ascii Section.Loss,
          (
            tested (keyword_of Section.Down) refl,
            section_ascii Section.Down,
            (tested (keyword_of Section.Clock) refl, section_ascii Section.Clock, tt),
          ),
        ),
      ),
    ),
  )
