-- The names of std that most proofs cite, passed on from one place. Declares nothing.
pub use Rattle.std.proofs.Common.{◌≡◌, ℕ, zero, suc, ◌+◌, ◌-◌, ◌*◌, ◌/◌, ◌%◌, ◌^◌, ◌<◌, ◌≤◌, min, max, Bool, true, false, cond, not, ◌&&◌, ◌||◌, eqb, ltb, leb, ◌≢◌, ◌⊎◌, ◌↔◌, List, [], ◌∷◌, ◌++◌, map, reverse, length, get_or, take, drop, set, replicate, ℤ, pos, negsuc, neg_ℤ, nat_abs, ◌≤ℤ◌, is_some, is_none, IfSome, IfNone, is_err, IsErrAnd, IfOk, IfErr, if◌then◌else◌, OnOk, IsOkUnless, IsSome, IsTrue, nat_eq, nat_lt, nat_le, ◌==◌, slice_get, slice_index, slice_index_or, slice_set, bit_or, FitsSigned, Some, None, Ok, Err, codes, decimal, fold, All, Contains, sum_by, sum, count_by, filter, Option, Result, MatchOption, ok_or, option_map, MatchResult, remove, AllPairs, position, take_while, find, zip, flat_map, filter_map, option_and_then, IsErrOf, encode_utf8, Less, unwrap_or, sym, refl, ap, ◌∙◌, subst, ap₂, inl, inr, true≢false, append_assoc, append-nil, lt_of_lt_of_le, add-suc, mod-eq_of_lt, mul_assoc, mul_comm, add-mul, add_comm, mul-le-mul_left, pow-suc, mul-zero, zero-add, mul-add, add-one, arith, lit<, lit≤, length-append, length-drop, length-set, take-append-drop, length-take, length-take-le, get_or-drop, take_all, drop-cons, get_or-set_other, get_or-take, get_or-set_same, take-take, drop-drop, take_at, get_or-append-add, drop-set-lt, ext_get_or, drop_at, pow_pos, pow-add, w32, w64, SFits, to_z, of_z, Bor, rules, tests, ltb-false, ltb-true, le-ltb, lt-ltb, eq-eqb, ne_eqb, eqb-true, le-leb, leb-false, leb-true}
pub use Rattle.std.specs.List.{AllByRecursion, AllZip, after_first, before_first, common_prefix_len, dedup, dedup_from, enumerate_from, join_with_byte, list_all, list_any, position_or_len, prefix_len, range_with_len, refill, slice_split, starts_with}
unfoldable pub use Rattle.std.specs.List.{IsDistinct}
pub use Rattle.std.proofs.lemmas.List.{at_drop_more, drop-append-le, drop-map, drop-set, drop-take, drop_all, drop_min, drop_more, get_or-append_right, get_or-map, get_or-replicate, get_or-reverse, get_or_append_left, get_or_at, get_or_default, get_or_past, length-map, length-replicate, length-reverse, length_push, map-append, map-set, map_push, nil_from_length, places, replicate_more, reverse-append, set-append_right, set-get_or, take-append-le, take_min, take_more, take_more_set, take_rest}
pub use Rattle.std.proofs.lemmas.Bool.{OnTrue_at, OnTrue_from, and_from, and_parts, and_right, both_ways, cases_Bool, cases_eq, cases_lt, cases_order, cond-false, cond-true, cond_both, eqb-false, lt-leb, not-false, not-true, not_from_false, or_cases, or_from, or_left, or_parts, or_right}
pub use Rattle.std.proofs.lemmas.List.Elements.{All-append, All-cons, All-contains, All-contains_itself, All-drop, All-filter, All-from_get_or, All-get_or, All-head, All-map, All-nil, All-push, All-tail, All-take, All-weaker, AllZip-get_or, Contains-append_cases, Contains-append_left, Contains-append_right, Contains-get_or, Contains-push, Contains-push_cases, filter-append, filter_agree, filter_map-append, filter_passes, length_all_zip}
pub use Rattle.std.proofs.lemmas.Int.{fold-int_min_bounds, fold-int_min_reached, to_z-of_z}
pub use Rattle.std.proofs.lemmas.Option.{IfSome_then, get_or_from_slice_get, slice_get-get_or, slice_get-map, slice_get_past, slice_get_read, slice_get_within}
pub use Rattle.std.proofs.lemmas.Bool.Decides.{Decides-eqb, Decides-like, Decides-ltb, eqb_tells, nat_tests, same_from_decides}
pub use Rattle.std.proofs.lemmas.List.Sums.{AllPass-from_list_all, common_prefix_len-le, count_by-le-length, fails_before_first, fold-append, length-filter, list_all-from_AllPass, passes_at_first, position_or_len_is, prefix_len-le-length, prefix_len_is, prefix_len_passes, split_at_first, sum_by-cons, sum_by-drop_more, sum_by-le, sum_by-take-drop, sum_by-take-le, sum_by_more, sum_by_push, take_while-cons}
pub use Rattle.std.specs.Option.{option_map_or}
pub use Rattle.std.proofs.lemmas.Result.{IfErr-weaker, IfOk-weaker, err_from_is_err_and, on_ok_weaker}
pub use Rattle.std.proofs.lemmas.Nat.{div_below, le-div, mod_below, mul-add-lt, mul-le, mul-mod_first}
pub use Rattle.std.proofs.lemmas.Grind.{common_steps, flat_map-append, get_or_default_zero, replicate_next}
pub use Rattle.std.proofs.lemmas.List.Folds.{Any-from_list_any, list_all-append, list_all-map, list_all_at, list_all_more, list_any-append, list_any_at, prefix_len-append}
pub use Rattle.std.proofs.Math.Nat.{add-mul-mod_self_right, div-add-mod, div-div-eq-div-mul, mod-add-div', pow-le-pow_right, pow-succ', two-pow-succ}
pub use Rattle.std.proofs.Math.Seq.{drop-append-add, drop-append_seam, get_or-append_seam, set-append_seam, take-append-add, take-append_seam, take-set-lt}
pub use Rattle.std.proofs.lemmas.List.FromFn.{get_or-enumerate_from, get_or-map-range_with_len, get_or-range_with_len, length-enumerate_from, length-map-range_with_len, length-range_with_len, map-range_with_len_more}
pub use Rattle.std.specs.Cmp.Lexicographic.{bytes_decides, nat_list_cmp_total, pointwise}
pub use Rattle.std.specs.Int.{bit_at, int_max, int_min}
pub use Rattle.std.proofs.lemmas.Fmt.{decimal_by_steps, decimal_digit, decimal_is_IsNumeral, decimal_step, length-decimal-le, length_signed_le}
pub use Rattle.std.proofs.lemmas.List.Kept.{AllPairs-cons, AllPairs-filter, IsStrictlySortedBy-dedup}
pub use Rattle.std.specs.Str.Parse.{AllDigits, IsNumeral, ParsesUnsigned, digits_value}
pub use Rattle.std.specs.Fmt.{digit_glyph, digits_onto, signed_decimal}
unfoldable pub use Rattle.std.specs.Fmt.{digits}
pub use Rattle.std.specs.Result.{result_map_both, result_ok}
pub use Rattle.std.specs.Char.{digit_value, is_digit}
pub use Rattle.std.specs.Bool.{OnFalse, OnTrue}
pub use Rattle.std.specs.Io.KnownBytes.{Appends, Consumes, IsAtEnd, Keeps}
pub use Rattle.std.proofs.KnownBytes.{Appends-nil, Appends-trans, Consumes-trans}
