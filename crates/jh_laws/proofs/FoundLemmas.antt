-- What the set checker finds, by the elements themselves.
use Rattle.std.proofs.Common.{◌≡◌, ◌↔◌, Bool, true, false, cond, not, ◌&&◌, List, [], ◌∷◌, map, length, get_or, codes, refl, sym, ap, subst, Contains, All}
use Rattle.std.specs.Prelude.{◌==◌}
use Rattle.std.specs.List.{filter}
use Rattle.std.proofs.lemmas.Bool.{and_parts, and_from}
use Rattle.std.proofs.lemmas.List.Elements.{All-contains, Contains-get_or}
use Rattle.jh_edn.specs.Edn.{Edn}
use Rattle.jh_edn.specs.Normal.{normal}
use Rattle.jh_edn.specs.Printable.{IsPrintable}
use Rattle.jh_edn.specs.Spelling.{depth_limit}
use Rattle.jh_ops.specs.Operation.{Operation}
use Rattle.jh_ops.specs.declared.operation.Kind.{Kind}
use Rattle.jh_check.specs.Distinct.{has_same_value, set_of}
use Rattle.jh_check.specs.SetResults.{attempts, acknowledged_values, set_found, is_whole_set}
use Rattle.jh_check.specs.declared.set.SetFound.{SetFound}
use Rattle.jh_laws.specs.EqualResults.{CanPrintEach, IsOneOf, IsNormalOf, LastReadShows, IsWholeSet, IsSetFound, elements_attempted, elements_acknowledged}
use Rattle.jh_laws.proofs.EqualLemmas.{EqualLaw, OneLaw, Shows, normals_show, set_shows, kept_show, held_normal, among_is_one, else_is_none, one_unless}
use Rattle.jh_laws.proofs.MemberLemmas.{Member, member_from, member_to, empty_none, none_empty}

filter_twice : (p q : Edn → Bool) (zs : List Edn) → filter q (filter p zs) ≡ filter (λ x. p x && q x) zs
filter_twice p q [] = refl
filter_twice p q (z ∷ zs) =
    elim (p z) as (λ b. filter q (cond b (z ∷ filter p zs) (filter p zs)) ≡ cond (b && q z) (z ∷ filter (λ x. p x && q x) zs) (filter (λ x. p x && q x) zs)) [
      | true ↦ ap (λ rest. cond (q z) (z ∷ rest) rest) (filter_twice p q zs)
      | false ↦ filter_twice p q zs
    ]

module _ (equal : EqualLaw) (one : OneLaw) where
  module _ (zs xs : List Edn) (all : Shows zs xs) (printable : CanPrintEach xs) where
    each : (x : Edn) → Member x xs → IsPrintable depth_limit x
    each x h = All-contains (IsPrintable depth_limit) xs x printable (member_to xs x h)

    -- those that are among others, those that are not, and those that are among some and not among others
    among_parsed : (os ys : List Edn) → Shows os ys → CanPrintEach ys → (v : Edn) → (Contains (filter (has_same_value os) zs) v ↔ IsNormalOf xs (IsOneOf ys) v)
    among_parsed os ys others printable_ys = kept_show zs xs all (has_same_value os) (IsOneOf ys) (λ x h. among_is_one equal one os ys others printable_ys x (each x h))

    else_parsed : (os ys : List Edn) → Shows os ys → CanPrintEach ys → (v : Edn) → (Contains (filter (λ x. not (has_same_value os x)) zs) v ↔ IsNormalOf xs (λ x. IsOneOf ys x → ⊥) v)
    else_parsed os ys others printable_ys = kept_show zs xs all (λ x. not (has_same_value os x)) (λ x. IsOneOf ys x → ⊥) (λ x h. else_is_none equal one os ys others printable_ys x (each x h))

    both_parsed : (os ys us ws : List Edn) → Shows os ys → CanPrintEach ys → Shows us ws → CanPrintEach ws → (v : Edn)
        → (Contains (filter (λ x. not (has_same_value us x)) (filter (has_same_value os) zs)) v ↔ IsNormalOf xs (λ x. IsOneOf ys x × (IsOneOf ws x → ⊥)) v)
    both_parsed os ys us ws others printable_ys more printable_ws v =
        subst (λ kept. (Contains kept v ↔ IsNormalOf xs (λ x. IsOneOf ys x × (IsOneOf ws x → ⊥)) v)) (sym (filter_twice (has_same_value os) (λ x. not (has_same_value us x)) zs))
        (kept_show zs xs all (λ x. has_same_value os x && not (has_same_value us x)) (λ x. IsOneOf ys x × (IsOneOf ws x → ⊥)) both v)
      where
        both : (x : Edn) → Member x xs → (((has_same_value os (normal x) && not (has_same_value us (normal x))) ≡ true) ↔ (IsOneOf ys x × (IsOneOf ws x → ⊥)))
        both x h =
            let yes = among_is_one equal one os ys others printable_ys x (each x h) in
            let no = else_is_none equal one us ws more printable_ws x (each x h) in (
              λ is. let parts = and_parts (has_same_value os (normal x)) (not (has_same_value us (normal x))) is in (yes.0 parts.0, no.0 parts.1),
              λ is. and_from (has_same_value os (normal x)) (not (has_same_value us (normal x))) (yes.1 is.0) (no.1 is.1),
            )

  module _ (history : List Operation) (read : List Edn) (last : LastReadShows history read) where
    -- the elements as they stand, and the set that was read
    abbrev tried : List Edn
    tried = elements_attempted history

    abbrev known : List Edn
    known = elements_acknowledged history

    abbrev shown : List Edn
    shown = set_of (map normal read)

    tried_show : Shows (attempts history) tried
    tried_show = subst (λ zs. Shows zs tried) (held_normal Kind.Invoke (codes "add") history) (normals_show tried)

    known_show : Shows (acknowledged_values history) known
    known_show = subst (λ zs. Shows zs known) (held_normal Kind.Ok (codes "add") history) (normals_show known)

    known_set : Shows (set_of (acknowledged_values history)) known
    known_set = subst (λ zs. Shows (set_of zs) known) (held_normal Kind.Ok (codes "add") history) (set_shows equal one known last.acknowledged_printable)

    read_show : Shows shown read
    read_show = set_shows equal one read last.read_printable

    pub found_parsed : IsSetFound history read (set_found history shown)
    found_parsed = record {
      ok = among_parsed shown read read_show last.read_printable (attempts history) tried tried_show last.attempted_printable;
      unexpected = else_parsed shown read read_show last.read_printable (attempts history) tried tried_show last.attempted_printable;
      lost = else_parsed (set_of (acknowledged_values history)) known known_set last.acknowledged_printable shown read read_show last.read_printable;
      recovered = both_parsed shown read read_show last.read_printable (attempts history) tried (acknowledged_values history) known
          tried_show last.attempted_printable known_show last.acknowledged_printable;
    }

    -- nothing is lost or unexpected where all that is known was read and all that was read was tried, and only there
    module _ (found : SetFound) (parsed : IsSetFound history read found) where
      pub whole_from : is_whole_set found ≡ true → IsWholeSet history read
      whole_from h = (kept, meant) where
        parts : ((length found.lost == 0) ≡ true) × ((length found.unexpected == 0) ≡ true)
        parts = and_parts (length found.lost == 0) (length found.unexpected == 0) h

        kept : All (IsOneOf read) known
        kept k d less =
            let x = get_or known k d in
            let there = Contains-get_or known k d less in
            one_unless equal one shown read read_show last.read_printable x (last.acknowledged_printable k d less)
            (λ no. empty_none found.lost parts.0 (normal x) (member_from found.lost (normal x) ((parsed.lost (normal x)).1 (x, there, no, refl))))

        meant : All (IsOneOf tried) read
        meant k d less =
            let x = get_or read k d in
            let there = Contains-get_or read k d less in
            one_unless equal one (attempts history) tried tried_show last.attempted_printable x (last.read_printable k d less)
            (λ no. empty_none found.unexpected parts.1 (normal x) (member_from found.unexpected (normal x) ((parsed.unexpected (normal x)).1 (x, there, no, refl))))

      pub from_whole : IsWholeSet history read → is_whole_set found ≡ true
      from_whole h = and_from (length found.lost == 0) (length found.unexpected == 0) (none_empty found.lost none_lost) (none_empty found.unexpected none_new) where
        none_lost : (v : Edn) → Member v found.lost → ⊥
        none_lost v there =
            let of = (parsed.lost v).0 (member_to found.lost v there) in
            of.2 (All-contains (IsOneOf read) known of.0 h.0 of.1)

        none_new : (v : Edn) → Member v found.unexpected → ⊥
        none_new v there =
            let of = (parsed.unexpected v).0 (member_to found.unexpected v there) in
            of.2 (All-contains (IsOneOf tried) read of.0 h.1 of.1)
