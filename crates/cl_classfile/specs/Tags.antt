-- The tags by which the entries of a pool are told (JVMS SE 8, table 4.4-A).
use Rattle.std.specs.Prelude.{ℕ}

-- a text (4.4.7)
abbrev pub utf8 : ℕ
utf8 = 1

-- an int (4.4.4)
abbrev pub integer : ℕ
integer = 3

-- a float (4.4.4)
abbrev pub float : ℕ
float = 4

-- a long (4.4.5)
abbrev pub long : ℕ
long = 5

-- a double (4.4.5)
abbrev pub double : ℕ
double = 6

-- a class or interface, or an array (4.4.1)
abbrev pub class : ℕ
class = 7

-- a string (4.4.3)
abbrev pub string : ℕ
string = 8

-- a field of a class (4.4.2)
abbrev pub fieldref : ℕ
fieldref = 9

-- a method of a class (4.4.2)
abbrev pub methodref : ℕ
methodref = 10

-- a method of an interface (4.4.2)
abbrev pub interface_methodref : ℕ
interface_methodref = 11

-- a name and a descriptor (4.4.6)
abbrev pub name_and_type : ℕ
name_and_type = 12

-- a method handle (4.4.8)
abbrev pub method_handle : ℕ
method_handle = 15

-- a method's type (4.4.9)
abbrev pub method_type : ℕ
method_type = 16

-- a call site (4.4.10)
abbrev pub invoke_dynamic : ℕ
invoke_dynamic = 18
