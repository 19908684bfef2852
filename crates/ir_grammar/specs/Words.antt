-- The words of the grammar: those that are reserved, and those that are flags, predicates and targets.
use Rattle.std.specs.Prelude.{ℕ, Bool, false, ◌&&◌, nat_eq, bytes_eq, codes, List, [], ◌∷◌, if◌then◌else◌}
use Rattle.std.specs.List.{list_all, ends_with}
use Rattle.std.specs.Char.{is_ascii_digit}
use Rattle.ir_grammar.specs.declared.shape.Shape.{Shape}
use Rattle.ir_grammar.specs.declared.shape.Shape.TheVariants as is
use Rattle.ir_grammar.specs.declared.shape.Value.TheVariants as val
use Rattle.ir_grammar.specs.declared.shape.Free.TheVariants as free
use Rattle.ir_grammar.specs.declared.shape.Flag.TheVariants as flag
use Rattle.ir_types.specs.declared.scalar.Scalar.TheVariants as scalar
use Rattle.ir_types.specs.declared.scalar.BinOp.TheVariants as op
use Rattle.ir_types.specs.declared.scalar.CastOp.TheVariants as cast
use Rattle.ir_types.specs.declared.scalar.Pred.TheVariants as pred
use Rattle.ir_types.specs.declared.scalar.Ext.TheVariants as ext
use Rattle.ir_syntax.specs.declared.item.Linkage.TheVariants as linkage

-- the shape of the first of these words that the text is, or else the one given
abbrev pub among : List (List ℕ × Shape) → List ℕ → Shape → Shape
among [] text other = other
among (word ∷ words) text other = if bytes_eq text word.0 then word.1 else among words text other

-- i and decimal digits: an integer type
abbrev pub is_integer_type : List ℕ → Bool
is_integer_type [] = false
is_integer_type (b ∷ []) = false
is_integer_type (b ∷ c ∷ bs) = nat_eq b 105 && list_all is_ascii_digit (c ∷ bs)

-- any other word: integer types and words that end in cc are reserved
abbrev pub other_word : List ℕ → Shape
other_word text = if is_integer_type text then is.Reserved else (if ends_with nat_eq text (codes "cc") then is.Reserved else is.Free free.Other)

-- ---- the words by their first byte

abbrev pub words_in_dots : List (List ℕ × Shape)
words_in_dots =
    (codes "...", is.Dots) ∷ []

abbrev pub words_in_a : List (List ℕ × Shape)
words_in_a =
    (codes "alloca", is.Alloca) ∷ (codes "attributes", is.AttributesWord) ∷ (codes "align", is.Align) ∷ (codes "add", is.Bin op.Add) ∷ (codes "ashr", is.Bin op.Ashr) ∷ (codes "and", is.Bin op.And) ∷ (codes "asm", is.Reserved) ∷ (codes "alias", is.Reserved) ∷ (codes "addrspace", is.Reserved) ∷ (codes "appending", is.Reserved) ∷ (codes "available_externally", is.Reserved) ∷ (codes "atomicrmw", is.Reserved) ∷ []

abbrev pub words_in_b : List (List ℕ × Shape)
words_in_b =
    (codes "br", is.Br) ∷ (codes "bfloat", is.Reserved) ∷ (codes "byval", is.Reserved) ∷ (codes "byref", is.Reserved) ∷ []

abbrev pub words_in_c : List (List ℕ × Shape)
words_in_c =
    (codes "call", is.Call) ∷ (codes "constant", is.ConstantWord) ∷ (codes "comdat", is.Reserved) ∷ (codes "common", is.Reserved) ∷ (codes "cmpxchg", is.Reserved) ∷ (codes "callbr", is.Reserved) ∷ (codes "catchswitch", is.Reserved) ∷ (codes "catchret", is.Reserved) ∷ (codes "cleanupret", is.Reserved) ∷ []

abbrev pub words_in_d : List (List ℕ × Shape)
words_in_d =
    (codes "declare", is.Declare) ∷ (codes "define", is.Define) ∷ (codes "distinct", is.Distinct) ∷ (codes "disjoint", is.Free (free.Flag flag.Disjoint)) ∷ (codes "datalayout", is.Free free.Datalayout) ∷ (codes "double", is.Reserved) ∷ (codes "dllimport", is.Reserved) ∷ (codes "dllexport", is.Reserved) ∷ []

abbrev pub words_in_e : List (List ℕ × Shape)
words_in_e =
    (codes "external", is.Linkage linkage.External) ∷ (codes "exact", is.Free (free.Flag flag.Exact)) ∷ (codes "eq", is.Free (free.Pred pred.Eq)) ∷ (codes "externally_initialized", is.Reserved) ∷ (codes "extern_weak", is.Reserved) ∷ (codes "extractvalue", is.Reserved) ∷ []

abbrev pub words_in_f : List (List ℕ × Shape)
words_in_f =
    (codes "false", is.Value val.False) ∷ (codes "float", is.Reserved) ∷ (codes "fp128", is.Reserved) ∷ (codes "fence", is.Reserved) ∷ (codes "freeze", is.Reserved) ∷ (codes "fcmp", is.Reserved) ∷ []

abbrev pub words_in_g : List (List ℕ × Shape)
words_in_g =
    (codes "getelementptr", is.Gep) ∷ (codes "global", is.Global) ∷ (codes "gc", is.Reserved) ∷ []

abbrev pub words_in_h : List (List ℕ × Shape)
words_in_h =
    (codes "half", is.Reserved) ∷ []

abbrev pub words_in_i : List (List ℕ × Shape)
words_in_i =
    (codes "i1", is.Scalar scalar.I1) ∷ (codes "i8", is.Scalar scalar.I8) ∷ (codes "i16", is.Scalar scalar.I16) ∷ (codes "i32", is.Scalar scalar.I32) ∷ (codes "i64", is.Scalar scalar.I64) ∷ (codes "icmp", is.Icmp) ∷ (codes "internal", is.Linkage linkage.Internal) ∷ (codes "inbounds", is.Free (free.Flag flag.Inbounds)) ∷ (codes "ifunc", is.Reserved) ∷ (codes "inalloca", is.Reserved) ∷ (codes "inreg", is.Reserved) ∷ (codes "invoke", is.Reserved) ∷ (codes "indirectbr", is.Reserved) ∷ (codes "insertvalue", is.Reserved) ∷ []

abbrev pub words_in_l : List (List ℕ × Shape)
words_in_l =
    (codes "load", is.Load) ∷ (codes "label", is.LabelWord) ∷ (codes "lshr", is.Bin op.Lshr) ∷ (codes "linkonce", is.Reserved) ∷ (codes "linkonce_odr", is.Reserved) ∷ (codes "landingpad", is.Reserved) ∷ []

abbrev pub words_in_m : List (List ℕ × Shape)
words_in_m =
    (codes "mul", is.Bin op.Mul) ∷ (codes "metadata", is.Reserved) ∷ (codes "module", is.Reserved) ∷ (codes "musttail", is.Reserved) ∷ []

abbrev pub words_in_n : List (List ℕ × Shape)
words_in_n =
    (codes "notail", is.Tail) ∷ (codes "null", is.Value val.Null) ∷ (codes "nuw", is.Free (free.Flag flag.Nuw)) ∷ (codes "nsw", is.Free (free.Flag flag.Nsw)) ∷ (codes "nneg", is.Free (free.Flag flag.Nneg)) ∷ (codes "nusw", is.Free (free.Flag flag.Nusw)) ∷ (codes "ne", is.Free (free.Pred pred.Ne)) ∷ (codes "none", is.Reserved) ∷ (codes "nest", is.Reserved) ∷ []

abbrev pub words_in_o : List (List ℕ × Shape)
words_in_o =
    (codes "opaque", is.Opaque) ∷ (codes "or", is.Bin op.Or) ∷ []

abbrev pub words_in_p : List (List ℕ × Shape)
words_in_p =
    (codes "ptr", is.Scalar scalar.Ptr) ∷ (codes "phi", is.Phi) ∷ (codes "private", is.Linkage linkage.Private) ∷ (codes "poison", is.Value val.Poison) ∷ (codes "ppc_fp128", is.Reserved) ∷ (codes "partition", is.Reserved) ∷ (codes "prefix", is.Reserved) ∷ (codes "prologue", is.Reserved) ∷ (codes "personality", is.Reserved) ∷ (codes "preallocated", is.Reserved) ∷ []

abbrev pub words_in_r : List (List ℕ × Shape)
words_in_r =
    (codes "ret", is.Ret) ∷ (codes "resume", is.Reserved) ∷ []

abbrev pub words_in_s : List (List ℕ × Shape)
words_in_s =
    (codes "select", is.Select) ∷ (codes "store", is.Store) ∷ (codes "switch", is.Switch) ∷ (codes "source_filename", is.SourceFilename) ∷ (codes "signext", is.Ext ext.Signed) ∷ (codes "sub", is.Bin op.Sub) ∷ (codes "sdiv", is.Bin op.Sdiv) ∷ (codes "srem", is.Bin op.Srem) ∷ (codes "shl", is.Bin op.Shl) ∷ (codes "sext", is.Cast cast.Sext) ∷ (codes "sgt", is.Free (free.Pred pred.Sgt)) ∷ (codes "sge", is.Free (free.Pred pred.Sge)) ∷ (codes "slt", is.Free (free.Pred pred.Slt)) ∷ (codes "sle", is.Free (free.Pred pred.Sle)) ∷ (codes "section", is.Reserved) ∷ (codes "sret", is.Reserved) ∷ (codes "swiftself", is.Reserved) ∷ (codes "swifterror", is.Reserved) ∷ (codes "swiftasync", is.Reserved) ∷ []

abbrev pub words_in_t : List (List ℕ × Shape)
words_in_t =
    (codes "tail", is.Tail) ∷ (codes "to", is.To) ∷ (codes "type", is.TypeWord) ∷ (codes "target", is.Target) ∷ (codes "true", is.Value val.True) ∷ (codes "trunc", is.Cast cast.Trunc) ∷ (codes "triple", is.Free free.Triple) ∷ (codes "token", is.Reserved) ∷ (codes "thread_local", is.Reserved) ∷ []

abbrev pub words_in_u : List (List ℕ × Shape)
words_in_u =
    (codes "unreachable", is.Unreachable) ∷ (codes "undef", is.Value val.Undef) ∷ (codes "udiv", is.Bin op.Udiv) ∷ (codes "urem", is.Bin op.Urem) ∷ (codes "ugt", is.Free (free.Pred pred.Ugt)) ∷ (codes "uge", is.Free (free.Pred pred.Uge)) ∷ (codes "ult", is.Free (free.Pred pred.Ult)) ∷ (codes "ule", is.Free (free.Pred pred.Ule)) ∷ (codes "uselistorder", is.Reserved) ∷ (codes "uselistorder_bb", is.Reserved) ∷ []

abbrev pub words_in_v : List (List ℕ × Shape)
words_in_v =
    (codes "void", is.Void) ∷ (codes "va_arg", is.Reserved) ∷ []

abbrev pub words_in_w : List (List ℕ × Shape)
words_in_w =
    (codes "weak", is.Reserved) ∷ (codes "weak_odr", is.Reserved) ∷ []

abbrev pub words_in_x : List (List ℕ × Shape)
words_in_x =
    (codes "x", is.X) ∷ (codes "xor", is.Bin op.Xor) ∷ (codes "x86_fp80", is.Reserved) ∷ (codes "x86_amx", is.Reserved) ∷ []

abbrev pub words_in_z : List (List ℕ × Shape)
words_in_z =
    (codes "zeroext", is.Ext ext.Unsigned) ∷ (codes "zeroinitializer", is.Value val.Zero) ∷ (codes "zext", is.Cast cast.Zext) ∷ []

-- the words that begin with a byte
abbrev pub words_in : ℕ → List (List ℕ × Shape)
words_in b =
    if nat_eq b 46 then words_in_dots
    else (if nat_eq b 97 then words_in_a
    else (if nat_eq b 98 then words_in_b
    else (if nat_eq b 99 then words_in_c
    else (if nat_eq b 100 then words_in_d
    else (if nat_eq b 101 then words_in_e
    else (if nat_eq b 102 then words_in_f
    else (if nat_eq b 103 then words_in_g
    else (if nat_eq b 104 then words_in_h
    else (if nat_eq b 105 then words_in_i
    else (if nat_eq b 108 then words_in_l
    else (if nat_eq b 109 then words_in_m
    else (if nat_eq b 110 then words_in_n
    else (if nat_eq b 111 then words_in_o
    else (if nat_eq b 112 then words_in_p
    else (if nat_eq b 114 then words_in_r
    else (if nat_eq b 115 then words_in_s
    else (if nat_eq b 116 then words_in_t
    else (if nat_eq b 117 then words_in_u
    else (if nat_eq b 118 then words_in_v
    else (if nat_eq b 119 then words_in_w
    else (if nat_eq b 120 then words_in_x
    else (if nat_eq b 122 then words_in_z else []))))))))))))))))))))))

abbrev pub word_shape : List ℕ → Shape
word_shape [] = other_word []
word_shape (b ∷ bs) = among (words_in b) (b ∷ bs) (other_word (b ∷ bs))
