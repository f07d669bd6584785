-- A call of a marked function in a program as it stands, and what the code is told of it (Go specification, Calls;
-- Exported identifiers; Declarations and scope; Constant declarations).
use Rattle.std.specs.Prelude.{◌≡◌, Bool, ◌&&◌, List, map, Some, slice_get}
use Rattle.std.specs.List.{list_any}
use Rattle.pkg_graph.specs.Views.{package_view}
use Rattle.run_rules.specs.Calls.{Call, has_receiver, spread_call}
use Rattle.run_rules.specs.Cycles.{is_recursive}
use Rattle.run_rules.specs.FormTrees.{FormKind}
use Rattle.run_rules.specs.Obstacles.{is_repeated, not_accessible, shadowed}
use Rattle.run_rules.specs.Reduced.{needed_by, range_of, text_taken}
use Rattle.run_rules.specs.Respanned.{packages_with}
use Rattle.run_rules.specs.Run.{Standing, here_of, is_commented}
use Rattle.run_rules.specs.Sites.{MarkRef, Site}
use Rattle.run_rules.specs.Steps.{At, same_here, lies_in}
use Rattle.run_rules.specs.Surroundings.{Seen}
use Rattle.call_obstacles.specs.Told.{hidden_told, shadowed_told}
use Rattle.call_obstacles.specs.declared.uses.CallUse.{CallUse}

module _ (marks : List MarkRef) (st : Standing) (x : Site At) (c : Call At) (kept : List Bool) (k : FormKind) where
  -- what this form of the call takes from the function
  abbrev pub text : List (Seen At)
  text = text_taken same_here (is_commented st) st.packages marks c k kept

  -- what it replaces
  abbrev pub range : At
  range = range_of same_here (is_commented st) st.packages marks k c

  -- The code is told of this call and of this form of it: the first names that are obstacles, the packages that the
  -- form needs by their numbers, and what the call is.
  pub record IsToldUse (u : CallUse) : Type 0 where
    pub packages_are : map package_view u.packages.now ≡ packages_with here_of st.packages
    pub there_is : u.there ≡ x.at.number
    pub package_is : slice_get st.packages x.at.number ≡ Some x.at.of
    pub hidden_is : hidden_told u ≡ not_accessible st.packages c.home x.at x.place text
    pub needed_are : u.needed.now ≡ needed_by same_here (is_commented st) st.packages marks c kept k
    pub shadowed_is : shadowed_told u ≡ shadowed st.packages c.home x.at x.place text
    pub recursive_is : u.recursive ≡ is_recursive st.packages marks x.mark
    pub commented_is :
        list_any (lies_in u.span) u.comments.now ≡ is_commented st x.at.number x.at.file_number range
    pub spread_is : u.spread ≡ (has_receiver same_here st.packages c && spread_call same_here st.packages c)
    pub repeated_is : u.repeated ≡ is_repeated st.packages c.home x.at x.place text
