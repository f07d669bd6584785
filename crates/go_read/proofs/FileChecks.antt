-- Types, parameters and files, read by evaluation: all of the text is spelled as the tree, or nothing is.
use Rattle.std.proofs.Common.{◌≡◌, true, false, [], ◌∷◌, Some, None, refl}
use Rattle.std.specs.Prelude.{codes, is_some}
use Rattle.go_tree.specs.Tree.{named, pointer, slice_type, map_type, struct_type, no_fields, field, no_stmts}
use Rattle.go_tree.specs.File.{func, types}
use Rattle.go_read.specs.Goals.{read_type, read_params, read_import, read_top, read_front}
use Rattle.go_read.proofs.Texts.{reading, name, type}

shared_type : reading (read_params false) (codes "( x , y int )") ≡ Some (record { span = tt; name = Some (name (codes "x")); rest = false; of = (type (codes "int")) } ∷ record { span = tt; name = Some (name (codes "y")); rest = false; of = (type (codes "int")) } ∷ [])
unfolding reading
shared_type = refl

own_types : reading (read_params false) (codes "( x int , y int )") ≡ Some (record { span = tt; name = Some (name (codes "x")); rest = false; of = (type (codes "int")) } ∷ record { span = tt; name = Some (name (codes "y")); rest = false; of = (type (codes "int")) } ∷ [])
unfolding reading
own_types = refl

types_alone : reading (read_params false) (codes "( int , lib . T , )") ≡ Some (record { span = tt; name = None; rest = false; of = (type (codes "int")) } ∷ record { span = tt; name = None; rest = false; of = named tt (Some (name (codes "lib"))) (name (codes "T")) } ∷ [])
unfolding reading
types_alone = refl

mixed_params : reading (read_params false) (codes "( a int , b )") ≡ None
unfolding reading
mixed_params = refl

pointer_param : reading (read_params false) (codes "( p * T )") ≡ Some (record { span = tt; name = Some (name (codes "p")); rest = false; of = pointer tt (type (codes "T")) } ∷ [])
unfolding reading
pointer_param = refl

map_of_slices : reading read_type (codes "map [ string ] [ ] ( * T )") ≡ Some (map_type tt (type (codes "string")) (slice_type tt (pointer tt (type (codes "T")))))
unfolding reading
map_of_slices = refl

struct_fields : reading read_type (codes "struct { x , y int ; z T }") ≡ Some (struct_type tt (field tt (name (codes "x")) (type (codes "int")) (field tt (name (codes "y")) (type (codes "int")) (field tt (name (codes "z")) (type (codes "T")) no_fields))))
unfolding reading
struct_fields = refl

main_file : reading read_front (codes "package main ; import \"fmt\" ; func main ( ) { } ;") ≡ Some (record { package_name = (name (codes "main")); imports = record { span = tt; grouped = false; specs = record { span = tt; name = None; path = codes "fmt" } ∷ [] } ∷ []; decls = func (record { span = tt; receiver = None; name = (name (codes "main")); sig = record { params = []; results = [] }; body_span = tt; body = no_stmts }) ∷ [] })
unfolding reading
main_file = refl

import_group : reading read_import (codes "import ( . \"a\" ; m \"b\" ; \"c\" )") ≡ None
unfolding reading
import_group = refl

import_names : reading read_import (codes "import ( m \"b\" ; \"c\" )") ≡ Some (record { span = tt; grouped = true; specs = record { span = tt; name = Some (name (codes "m")); path = codes "b" } ∷ record { span = tt; name = None; path = codes "c" } ∷ [] })
unfolding reading
import_names = refl

type_group : reading read_top (codes "type ( A = B ; C int ; )") ≡ Some (types tt true (record { span = tt; name = (name (codes "A")); alias = true; of = (type (codes "B")) } ∷ record { span = tt; name = (name (codes "C")); alias = false; of = (type (codes "int")) } ∷ []))
unfolding reading
type_group = refl

method : reading read_top (codes "func ( r * T ) m ( ) ( int , error ) { }") ≡ Some (func (record { span = tt; receiver = Some (record { span = tt; name = Some (name (codes "r")); pointer = true; of = (name (codes "T")) }); name = (name (codes "m")); sig = record { params = []; results = record { span = tt; name = None; rest = false; of = (type (codes "int")) } ∷ record { span = tt; name = None; rest = false; of = (type (codes "error")) } ∷ [] }; body_span = tt; body = no_stmts }))
unfolding reading
method = refl

blank_package : reading read_front (codes "package _ ;") ≡ None
unfolding reading
blank_package = refl

half_a_function : reading read_front (codes "package p ; func main (") ≡ None
unfolding reading
half_a_function = refl

late_import : reading read_front (codes "package p ; var x int ; import \"a\" ;") ≡ None
unfolding reading
late_import = refl

no_last_semicolon : reading read_front (codes "package p ; var x int") ≡ None
unfolding reading
no_last_semicolon = refl

-- ---- variadic parameters (Function types)

variadic : reading (read_params true) (codes "( xs ... int )") ≡ Some (record { span = tt; name = Some (name (codes "xs")); rest = true; of = (type (codes "int")) } ∷ [])
unfolding reading
variadic = refl

variadic_comma : reading (read_params true) (codes "( a int , xs ... int , )") ≡ Some (record { span = tt; name = Some (name (codes "a")); rest = false; of = (type (codes "int")) } ∷ record { span = tt; name = Some (name (codes "xs")); rest = true; of = (type (codes "int")) } ∷ [])
unfolding reading
variadic_comma = refl

variadic_type : reading (read_params true) (codes "( int , ... string )") ≡ Some (record { span = tt; name = None; rest = false; of = (type (codes "int")) } ∷ record { span = tt; name = None; rest = true; of = (type (codes "string")) } ∷ [])
unfolding reading
variadic_type = refl

variadic_alone : reading (read_params true) (codes "( ... string , )") ≡ Some (record { span = tt; name = None; rest = true; of = (type (codes "string")) } ∷ [])
unfolding reading
variadic_alone = refl

variadic_function : is_some (reading read_top (codes "func f ( xs ... int ) int { return len ( xs ) }")) ≡ true
unfolding reading
variadic_function = refl

-- named and unnamed parameters don't stand in one list
variadic_mixed : reading read_top (codes "func f ( a int , ... string ) { }") ≡ None
unfolding reading
variadic_mixed = refl

-- one name alone stands before the dots
variadic_shared : reading read_top (codes "func f ( a , b ... int ) { }") ≡ None
unfolding reading
variadic_shared = refl

variadic_not_last : reading read_top (codes "func f ( xs ... int , a int ) { }") ≡ None
unfolding reading
variadic_not_last = refl

variadic_without_type : reading read_top (codes "func f ( xs ... ) { }") ≡ None
unfolding reading
variadic_without_type = refl

variadic_result : reading read_top (codes "func f ( ) ( xs ... int ) { }") ≡ None
unfolding reading
variadic_result = refl

variadic_method : reading read_top (codes "func ( r T ) f ( xs ... int ) { }") ≡ None
unfolding reading
variadic_method = refl

-- a library and a program that uses it are read whole
library_file : is_some (reading read_front (codes "package lib ; import \"example.com/lib/text\" ; const ( MaxWidth = text . Wide ; limit = 3 ; ) ; type Row = text . Line ; func PadLeft ( s string , n int ) string { return text . Pad ( s , n , true ) ; } ; func Show ( rows [ ] Row , width int ) { for _ , r := range rows { text . Put ( r , width ) ; } ; } ; func Total ( rows [ ] Row ) int { t := limit ; for _ , r := range rows { t += len ( r . Body ) ; } ; return t ; } ;")) ≡ true
unfolding reading
library_file = refl

text_file : is_some (reading read_front (codes "package text ; const Wide = 8 ; type Line struct { Body string ; } ; func Pad ( s string , n int , left bool ) string { for len ( s ) < n { if left { s = \"\\x20\" + s ; } else { s += \"\\x20\" ; } ; } ; return s ; } ; func Put ( l Line , width int ) { println ( Pad ( l . Body , width , false ) ) ; } ;")) ≡ true
unfolding reading
text_file = refl

program_file : is_some (reading read_front (codes "package main ; import ( \"example.com/lib\" ; ) ; func load ( ) [ ] lib . Row { return [ ] lib . Row { { \"a\" } , { \"bc\" } } ; } ; func main ( ) { rows := load ( ) ; for i := 0 ; i < 2 ; i ++ { println ( lib . PadLeft ( rows [ i ] . Body , lib . MaxWidth ) ) ; } ; lib . Show ( rows , 4 ) ; println ( lib . Total ( rows ) ) ; } ;")) ≡ true
unfolding reading
program_file = refl
